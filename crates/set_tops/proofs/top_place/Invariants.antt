-- The sequence passes the tops before p.
use Rattle.message_sequence.specs.Sequence.{sequence_number}
use Rattle.set_tops.specs.TopsIn.{tops_in}
use Rattle.set_tops.specs.Raising.{Passes}
use Rattle.set_tops.proofs.top_place.Given as goal

abbrev pub invariant-loop-p : goal.invariant-loop-p
invariant-loop-p l = Passes (sequence_number l.s) (tops_in l.tops l.count) l.p
