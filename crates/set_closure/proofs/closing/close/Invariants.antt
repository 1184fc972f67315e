-- Those placed so far are executable; each pass but the last places one more, of which there are at most as many as deltas.
use Rattle.std.proofs.Common.{◌-◌, length}
use Rattle.set_table.specs.Table.{set_in}
use Rattle.set_closure.specs.Closing.{Closing}
use Rattle.set_closure.proofs.closing.close.Given as goal

abbrev pub invariant-loop-count : goal.invariant-loop-count
invariant-loop-count l = Closing (set_in l.pool l.starts) l.placed l.blocks l.order l.count

abbrev pub decreases-loop-count : goal.decreases-loop-count
decreases-loop-count l = length l.starts - l.count
