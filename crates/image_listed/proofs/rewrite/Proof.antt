-- The table and the places of its log are lent to the image's writing.
use mathlib.Core.Path.{◌≡◌, sym}
use lib.ListN.{length}
use lib.Seq.{length-take-le}
use native.Mathlib.Omega.{arith}
use borrow.Author.Rules.{rules}
use Rattle.model.specs.Layout.{capacity}
use Rattle.image_listed.proofs.rewrite.Statement.{statement}
use Rattle.image_listed.proofs.rewrite.Tie as tie

starts_size : (s : tie.Start) → length s.args.listed.table.starts ≡ capacity
starts_size s = search rules

places_size : (s : tie.Start) → length s.args.listed.places ≡ capacity
places_size s = search rules

-- where table and places are taken from what is listed
abbrev taken : tie.After-write_used-arg-1 → tie.Start
taken c = c.before.before.before.before.before.before

array-share-prefix-starts : tie.Need-slice_bounds-starts-end
array-share-prefix-starts c = let s = taken c in omega (arith, starts_size s, s.requires.counted)

slice-aggregate-write-used : tie.Need-slice_bounds-write_used-end
slice-aggregate-write-used c =
    let s = taken c.before in
    let t = s.args.listed.table in
    sym (length-take-le t.count t.starts (omega (arith, starts_size s, s.requires.counted)))

array-share-prefix-places : tie.Need-slice_bounds-places-end
array-share-prefix-places c = let s = taken c.before in omega (arith, places_size s, s.requires.fits)

slice-aggregate-write-used-2 : tie.Need-slice_bounds-write_used-end-2
slice-aggregate-write-used-2 c =
    let s = taken c.before.before in
    let l = s.args.listed in
    sym (length-take-le l.logged l.places (omega (arith, places_size s, s.requires.fits)))

write-used-requires : tie.Need-write_used-requires
write-used-requires c κs = let h = (taken c.before.before).requires in record { room = h.room; logged = record { holds = h.holds; log = h.log } }

returns : tie.Need-returns
returns c = c.write_used.ensures

pub rewrite_spec : {M : Type 1} → statement M
rewrite_spec =
    tie.close
    (tie.spec
    array-share-prefix-starts
    slice-aggregate-write-used
    array-share-prefix-places
    slice-aggregate-write-used-2
    write-used-requires
    (λ c. search rules)
    returns)
