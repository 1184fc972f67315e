-- The two logs of one table give image, steps and counts: what was ordered is the set's log, and the old one stands beside it.
use mathlib.Core.Path.{◌≡◌, sym}
use Prim.Native.Nat.{◌≤◌}
use native.Mathlib.Omega.{arith}
use lib.ListN.{length}
use lib.Seq.{length-take-le}
use Rattle.model.specs.Layout.{capacity}
use Rattle.deliver_accepting.specs.AcceptLaws.{writable, updates}
use borrow.Author.Rules.{rules}
use Rattle.deliver_accepting.proofs.update.Statement.{statement}
use Rattle.deliver_accepting.proofs.update.Tie as tie

-- where the call began, from where the order has grown; and where that is, from where the old log is lent
abbrev began : tie.After-order_table-order → tie.Start
began c = c.before.before.before.before.before

abbrev ordered : tie.After-old-2-1 → tie.After-order_table-order
ordered c = c.before.before.before.before.before

-- the old log and the new one lie in their arrays
olds_size : (c : tie.After-order_table-order) → length c.order_table-order.result.old ≡ capacity
olds_size c = search rules

olds_inside : (c : tie.After-order_table-order) → c.order_table-order.result.old_count ≤ length c.order_table-order.result.old
olds_inside c = omega (arith, olds_size c, c.order_table-order.ensures.right.olds)

places_size : (c : tie.After-order_table-order) → length c.order_table-order.result.places ≡ capacity
places_size c = search rules

places_inside : (c : tie.After-order_table-order) → c.order_table-order.result.count ≤ length c.order_table-order.result.places
places_inside c = omega (arith, places_size c, c.order_table-order.ensures.right.news)

array-share-prefix-old : tie.Need-slice_bounds-old-end
array-share-prefix-old c = olds_inside c.before.before.before.before

slice-aggregate-write-change : tie.Need-slice_bounds-write_change-end
slice-aggregate-write-change c = sym (length-take-le _ _ (olds_inside (ordered c)))

array-share-prefix-places : tie.Need-slice_bounds-places-end
array-share-prefix-places c = places_inside (ordered c)

slice-aggregate-write-change-2 : tie.Need-slice_bounds-write_change-end-2
slice-aggregate-write-change-2 c = sym (length-take-le _ _ (places_inside (ordered c.before)))

write-change-requires : tie.Need-write_change-requires
write-change-requires c κs =
    let at = ordered c.before in
    let s = began at in
    let a = s.args in
    writable a.image.now (length a.steps.now) a.pool.now a.starts.now a.begun s.requires at.order_table-order.result at.order_table-order.ensures

returns : tie.Need-returns
returns c =
    let at = ordered c.before.before.before.before.before.before.before.before in
    let s = began at in
    let a = s.args in
    updates a.image.now (length a.steps.now) a.pool.now a.starts.now a.begun s.requires at.order_table-order.result at.order_table-order.ensures _ _ _ _ _ c.undos.ensures c.executions.ensures c.write_change.ensures

pub update_spec : {M : Type 1} → statement M
update_spec =
    tie.close
    (tie.spec
    (λ c κs. search rules)
    array-share-prefix-old
    slice-aggregate-write-change
    array-share-prefix-places
    slice-aggregate-write-change-2
    write-change-requires
    (λ c κs. search rules)
    (λ c κs. search rules)
    (λ c. search rules)
    (λ c. search rules)
    returns)
