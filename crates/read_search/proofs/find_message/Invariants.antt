-- The messages before the one that is looked at do not start at the offset.
use Rattle.read_search.specs.Finding.{Looking}
use Rattle.read_search.proofs.find_message.Given as goal

abbrev pub invariant-loop-at : goal.invariant-loop-at
invariant-loop-at l = Looking l.image l.offset l.at-index
