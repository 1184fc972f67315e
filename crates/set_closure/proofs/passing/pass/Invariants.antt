-- Those looked at were placed where they were ready; where nothing was placed, none of them is ready.
use Rattle.set_table.specs.Table.{set_in}
use Rattle.set_closure.specs.Closing.{Passing}
use Rattle.set_closure.proofs.passing.pass.Given as goal

abbrev pub invariant-loop-i : goal.invariant-loop-i
invariant-loop-i l = Passing (set_in l.pool l.starts) l.rows l.counts l.count l.placed l.blocks l.order l.n l.i
