-- Nothing is placed, so nothing is kept.
use Rattle.log_order.specs.LogOrderLaws.{begun}
use Rattle.log_order.proofs.LogOrder.begin.Statement.{statement}
use Rattle.log_order.proofs.LogOrder.begin.Tie as tie

returns : tie.Need-returns
returns c = begun c.args.old _ c.args.old_count c.requires

pub begin_spec : {M : Type 1} → statement M
begin_spec = tie.close (tie.spec returns)
