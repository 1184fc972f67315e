-- Those below the one that is looked at are found.
use Rattle.message_sequence.specs.Sequence.{sequence_number}
use Rattle.compose_dependencies.specs.Unneeded.{Finding}
use Rattle.compose_dependencies.proofs.find_dependencies.Given as goal

abbrev pub invariant-loop-i : goal.invariant-loop-i
invariant-loop-i l = Finding l.pool l.starts (sequence_number l.s) l.found l.n l.i
