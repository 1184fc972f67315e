-- The message stands in the pool behind the image, its start in the table, and the old log at the shifted places: `update` does the rest.
use mathlib.Core.Path.{◌≡◌, sym}
use Prim.Native.Nat.{◌≤◌}
use native.Mathlib.Omega.{arith}
use lib.ListN.{length}
use lib.Seq.{length-take-le}
use Rattle.deliver_accepting.specs.AcceptedLaws.{message_fits, place_fits, places_within, updatable, accepted_answer_lem}
use Rattle.model.specs.Layout.{capacity}
use borrow.Author.Rules.{rules}
use Rattle.deliver_accepting.proofs.accept.Statement.{statement}
use Rattle.deliver_accepting.proofs.accept.Tie as tie

-- the arrays' lengths
starts_size : (s : tie.Start) → length s.args.station.table.starts ≡ capacity
starts_size s = search rules

places_size : (s : tie.Start) → length s.args.station.places ≡ capacity
places_size s = search rules

-- the call as it began, the message copied, from where the places are shifted
abbrev start : tie.After-copy_at → tie.Start
start f = f.before.before.before.before.before.before

abbrev filled : tie.After-shift_places-old → tie.After-copy_at
filled c = c.before.before.before.before.before.before.before

-- the message in the table, from where the order is begun
abbrev inserted : tie.After-begin-begun → tie.After-insert-next
inserted c = c.before.before.before.before

next_size : (c : tie.After-insert-next) → length c.insert-next.result.starts ≡ capacity
next_size c = search rules

next_inside : (c : tie.After-insert-next) → c.insert-next.result.count ≤ length c.insert-next.result.starts
next_inside c = omega (arith, next_size c, c.insert-next.ensures.count, (start c.before.before.before.before).requires.few)

copy-at-requires : tie.Need-copy_at-requires
copy-at-requires c κs =
    let a = c.args in
    (omega arith, message_fits a.image.now a.message.now (length a.steps.now) a.pool.now a.station a.p c.requires (starts_size c.before.before.before.before.before) (places_size c.before.before.before.before.before))

insert-requires : tie.Need-insert-next-requires
insert-requires c κs =
    let s = start c.before.before.before in
    let a = s.args in
    (s.requires.few, place_fits a.image.now a.message.now (length a.steps.now) a.pool.now a.station a.p s.requires (starts_size s) (places_size s))

shift-places-requires : tie.Need-shift_places-old-requires
shift-places-requires c κs =
    let s = start c.before.before.before.before.before.before in
    let a = s.args in
    (s.requires.judged.fits, places_within a.image.now a.message.now (length a.steps.now) a.pool.now a.station a.p s.requires (starts_size s) (places_size s))

begin-requires : tie.Need-begin-begun-requires
begin-requires c κs = (start (filled c)).requires.judged.fits

array-share-prefix-starts : tie.Need-slice_bounds-starts-end
array-share-prefix-starts c = next_inside (inserted c.before.before)

slice-aggregate-update : tie.Need-slice_bounds-update-end
slice-aggregate-update c = sym (length-take-le _ _ (next_inside (inserted c.before.before.before)))

update-requires : tie.Need-update-requires
update-requires c κs =
    let s = start (filled c.before.before.before.before) in
    let a = s.args in
    updatable a.image.now a.message.now (length a.steps.now) a.pool.now a.station a.p s.requires (starts_size s) (places_size s) _ (filled c.before.before.before.before).copy_at.ensures _ (inserted c.before.before.before).insert-next.ensures.starts _ c.shift_places-old.ensures c.begin-begun.result c.begin-begun.ensures

returns : tie.Need-returns
returns c =
    let s = start (filled c.before.before.before.before.before.before.before.before.before) in
    let a = s.args in
    accepted_answer_lem a.image.now a.message.now (length a.steps.now) a.pool.now a.station a.p s.requires (starts_size s) (places_size s) _ (filled c.before.before.before.before.before.before.before.before.before).copy_at.ensures _ (inserted c.before.before.before.before.before.before.before.before).insert-next.ensures.starts _ c.shift_places-old.ensures c.begin-begun.result c.begin-begun.ensures _ _ c.update.ensures

pub accept_spec : {M : Type 1} → statement M
accept_spec =
    tie.close
    (tie.spec
    copy-at-requires
    (λ c. omega arith)
    insert-requires
    shift-places-requires
    begin-requires
    array-share-prefix-starts
    slice-aggregate-update
    update-requires
    (λ c. search rules)
    (λ c. search rules)
    (λ c. search rules)
    returns)
