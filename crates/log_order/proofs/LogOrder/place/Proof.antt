-- The place goes behind the new log's last, and `kept_with` says how many are kept with it.
use mathlib.Core.Path.{◌≡◌}
use lib.ListN.{length}
use Rattle.log_order.specs.LogOrderLaws.{placed}
use Rattle.model.specs.Layout.{capacity}
use borrow.Author.Rules.{rules}
use Rattle.log_order.proofs.LogOrder.place.Statement.{statement}
use Rattle.log_order.proofs.LogOrder.place.Tie as tie

returns : tie.Need-returns
returns c =
    let o = c.args.self in
    let olds : length o.old ≡ capacity = search rules in
    let news : length o.places ≡ capacity = search rules in
    placed o olds news c.requires.0 c.args.i c.kept_with-kept.result c.requires.1 c.kept_with-kept.ensures

pub place_spec : {M : Type 1} → statement M
place_spec = tie.close (tie.spec (λ c κs. search rules) (λ c. search rules) (λ c. search rules) returns)
