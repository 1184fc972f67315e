-- The needs that were looked at are placed: the delta is ready exactly if the rest of its row is placed.
use Rattle.std.proofs.Common.{◌≡◌}
use Rattle.set_readiness.specs.Ready.{ready_in}
use Rattle.set_readiness.proofs.Row.{Row}
use Rattle.set_readiness.proofs.Waiting.{rest_placed}
use Rattle.set_readiness.proofs.ready.Given as goal

abbrev pub invariant-loop-need : goal.invariant-loop-need
invariant-loop-need l =
    record {
      row : Row l.rows l.counts l.i l.needs;
      same : ready_in l.rows l.counts l.placed l.i ≡ rest_placed l.rows l.counts l.placed l.i l.need-index;
    }
