-- The deltas at the first places were placed one after the other, each above those that it has to be above.
use Rattle.set_table.specs.Table.{set_in}
use Rattle.log_check.specs.Checking.{Checking}
use Rattle.log_check.proofs.check_log.Given as goal

abbrev pub invariant-loop-k : goal.invariant-loop-k
invariant-loop-k l = Checking (set_in l.pool l.starts) l.keys l.places l.placed l.ends l.froms l.k
