-- The rows so far are those of the first deltas, each in its own room.
use Rattle.set_needs.proofs.Filled.{Filled}
use Rattle.set_needs.proofs.rows.fill_rows.Given as goal

abbrev pub invariant-loop-i : goal.invariant-loop-i
invariant-loop-i l = Filled l.pool l.starts l.rows l.counts l.i
