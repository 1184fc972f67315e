-- Lower sequences stand before what is left and higher ones behind it.
use Rattle.std.proofs.Common.{◌-◌}
use Rattle.message_sequence.specs.Sequence.{sequence_number}
use Rattle.set_needs.proofs.Halving.{Halving}
use Rattle.set_needs.proofs.sequences.index_of.Given as goal

abbrev pub invariant-loop-first : goal.invariant-loop-first
invariant-loop-first l = Halving l.sequences (sequence_number l.s) l.first l.last

abbrev pub decreases-loop-first : goal.decreases-loop-first
decreases-loop-first l = l.last - l.first
