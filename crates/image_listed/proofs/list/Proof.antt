-- The image's log is read as places of the table that its messages are in; its offsets are the first of the array.
use mathlib.Core.Path.{◌≡◌, refl, sym, subst}
use mathlib.Core.List.{List}
use Prim.Native.Nat.{ℕ, ◌≤◌}
use lib.ListN.{length, take}
use lib.Seq.{length-take-le}
use native.Mathlib.Omega.{arith}
use borrow.Author.Rules.{rules}
use Rattle.model.specs.Layout.{capacity}
use Rattle.set_table.specs.Table.{starts_of}
use Rattle.image_walk.specs.Walk.{LogOffsets}
use Rattle.image_log.specs.LogRead.{ReadsLog}
use Rattle.image_listed.proofs.list.Statement.{statement}
use Rattle.image_listed.proofs.list.Tie as tie

starts_size : (s : tie.Start) → length s.args.table.starts ≡ capacity
starts_size s = search rules

-- the array of offsets
abbrev offsets : tie.Start → List ℕ
offsets s = s.args.offsets

offsets_size : (s : tie.Start) → length (offsets s) ≡ capacity
offsets_size s = search rules

-- where the table is lent
abbrev lent : tie.After-get_u16-logged → tie.Start
lent c = c.before.before.before

array-share-prefix-starts : tie.Need-slice_bounds-starts-end
array-share-prefix-starts c = let s = lent c in omega (arith, starts_size s, s.requires.2.fits)

slice-aggregate-read-places : tie.Need-slice_bounds-read_places-end
slice-aggregate-read-places c =
    let s = lent c.before in
    let t = s.args.table in
    sym (length-take-le t.count t.starts (omega (arith, starts_size s, s.requires.2.fits)))

-- the log is no longer than the table
few : (g : tie.After-get_u16-logged) → g.get_u16-logged.result ≤ capacity
few g = let t = (lent g).requires.2 in omega (arith, g.get_u16-logged.ensures.0, t.count, t.fits)

array-share-prefix-offsets : tie.Need-slice_bounds-offsets-end
array-share-prefix-offsets c = omega (arith, few c.before, offsets_size (lent c.before))

counted : (g : tie.After-get_u16-logged) → length (take g.get_u16-logged.result (offsets (lent g))) ≡ g.get_u16-logged.result
counted g = length-take-le g.get_u16-logged.result (offsets (lent g)) (omega (arith, few g, offsets_size (lent g)))

slice-aggregate-read-places-2 : tie.Need-slice_bounds-read_places-end-2
slice-aggregate-read-places-2 c = sym (counted c.before.before)

log_offsets : (g : tie.After-get_u16-logged) → LogOffsets (lent g).args.b.now (take g.get_u16-logged.result (offsets (lent g)))
log_offsets g =
    let s = lent g in
    subst (λ (n : ℕ). LogOffsets s.args.b.now (take n (offsets s))) (sym g.get_u16-logged.ensures.0) s.requires.1

read-places-requires : tie.Need-read_places-places-requires
read-places-requires c κs =
    let s = lent c.before.before in
    let t = s.requires.2 in
    record { sized = s.requires.0; holds = t.holds; messages = t.messages; log = log_offsets c.before.before; few = omega (arith, t.count, t.fits) }

returns : tie.Need-returns
returns c =
    let s = lent c.before.before.before in
    record {
      table = refl;
      count = c.get_u16-logged.ensures.0;
      fits = few c.before.before.before;
      log = subst (λ (n : ℕ). ReadsLog s.args.b.now (starts_of s.args.table) n c.read_places-places.result) (counted c.before.before.before) c.read_places-places.ensures;
      offsets = log_offsets c.before.before.before;
    }

pub list_spec : {M : Type 1} → statement M
list_spec =
    tie.close
    (tie.spec
    (λ c κs. search rules)
    (λ c. search rules)
    array-share-prefix-starts
    slice-aggregate-read-places
    array-share-prefix-offsets
    slice-aggregate-read-places-2
    read-places-requires
    returns)
