-- The sequences so far are those of the first messages.
use Rattle.set_needs.proofs.Reading.{Reading}
use Rattle.set_needs.proofs.sequences.read_sequences.Given as goal

abbrev pub invariant-loop-i : goal.invariant-loop-i
invariant-loop-i l = Reading l.pool l.starts l.sequence-items l.i
