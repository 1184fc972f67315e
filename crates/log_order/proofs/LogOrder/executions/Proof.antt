-- What is kept is no longer than the new log.
use mathlib.Core.Path.{◌≡◌}
use lib.ListN.{length}
use native.Mathlib.Omega.{arith}
use Rattle.model.specs.Layout.{capacity}
use borrow.Author.Rules.{rules}
use Rattle.log_order.specs.LogOrderLaws.{kept_le, executions_is}
use Rattle.log_order.proofs.LogOrder.executions.Statement.{statement}
use Rattle.log_order.proofs.LogOrder.executions.Tie as tie

sub-result : tie.Need-overflow_sub-result
sub-result c =
    let o = c.args.self in
    let olds : length o.old ≡ capacity = search rules in
    let news : length o.places ≡ capacity = search rules in
    omega (arith, kept_le o olds news c.requires)

returns : tie.Need-returns
returns c =
    let o = c.args.self in
    let olds : length o.old ≡ capacity = search rules in
    let news : length o.places ≡ capacity = search rules in
    executions_is o olds news c.requires

pub executions_spec : {M : Type 1} → statement M
executions_spec = tie.close (tie.spec sub-result returns)
