-- The common start grows by one only where it is the whole new log so far, and the old one goes on with the same place.
use mathlib.Core.Path.{◌≡◌}
use lib.ListN.{length}
use Rattle.log_order.specs.LogOrderLaws.{kept_parted, kept_past, kept_other, kept_more}
use Rattle.model.specs.Layout.{capacity}
use borrow.Author.Rules.{rules}
use Rattle.log_order.proofs.LogOrder.kept_with.Statement.{statement}
use Rattle.log_order.proofs.LogOrder.kept_with.Tie as tie

olds : (s : tie.Start) → length s.args.self.old ≡ capacity
olds s = search rules

news : (s : tie.Start) → length s.args.self.places ≡ capacity
news s = search rules

returns : tie.Need-returns-then-self-at
returns c =
    kept_parted c.args.self (olds c.before) (news c.before) c.requires c.args.i c.if-self-at.true

returns-2 : tie.Need-returns-then-self-at-2
returns-2 c =
    kept_past c.args.self (olds c.before.before) (news c.before.before) c.requires c.args.i c.if-self-at-2.true

returns-3 : tie.Need-returns-then-self-at-3
returns-3 c =
    kept_other c.args.self (olds c.before.before.before.before) (news c.before.before.before.before) c.requires c.args.i c.if-self-at.false c.if-self-at-2.false c.if-self-at-3.true

returns-4 : tie.Need-returns
returns-4 c =
    kept_more c.args.self (olds c.before.before.before.before) (news c.before.before.before.before) c.requires c.args.i c.if-self-at.false c.if-self-at-2.false c.if-self-at-3.false

pub kept_with_spec : {M : Type 1} → statement M
kept_with_spec =
    tie.close
    (tie.spec returns returns-2 (λ c. search rules) returns-3 (λ c. search rules) returns-4)
