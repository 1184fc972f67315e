-- The needs so far stand in the row, each by its index.
use Rattle.set_needs.proofs.Filling.{Filling}
use Rattle.set_needs.proofs.rows.fill_row.Given as goal

abbrev pub invariant-loop-k : goal.invariant-loop-k
invariant-loop-k l = Filling l.pool l.starts l.i l.at l.fn.rows l.m l.k l.rows l.n
