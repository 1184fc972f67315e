-- The table and the listed places are lent to the log's check.
use mathlib.Core.Path.{◌≡◌, refl, sym}
use lib.ListN.{length, length-take}
use lib.Seq.{length-take-le}
use native.Mathlib.Omega.{arith}
use borrow.Author.Rules.{rules}
use Rattle.model.specs.Layout.{capacity}
use Rattle.set_table.specs.Table.{starts_of}
use Rattle.set_table.specs.TableLaws.{deltas_length}
use Rattle.image_log.specs.LogRead.{ReadsLog}
use Rattle.image_listed.proofs.check_listed.Statement.{statement}
use Rattle.image_listed.proofs.check_listed.Tie as tie

starts_size : (s : tie.Start) → length s.args.listed.table.starts ≡ capacity
starts_size s = search rules

places_size : (s : tie.Start) → length s.args.listed.places ≡ capacity
places_size s = search rules

-- where the call began, from where the arrays are lent to be written; and where they were, from where they are lent again
abbrev taken : tie.After-keys-1 → tie.Start
taken c = c.before.before.before.before.before.before.before

abbrev prepared : tie.After-keys-2-1 → tie.After-prepare
prepared c = c.before.before.before

abbrev lent : tie.After-prepare → tie.After-keys-1
lent c = c.before.before

abbrev again : tie.After-keys-3-1 → tie.After-keys-2-1
again c = c.before.before.before.before

-- the log as it was read
read : (s : tie.Start) → ReadsLog s.args.b.now (starts_of s.args.listed.table) s.args.listed.logged s.args.listed.places
read s = s.requires.2.log

-- the table's own starts
own_starts : (s : tie.Start) → s.args.listed.table.count ≡ length (starts_of s.args.listed.table)
own_starts s = let t = s.args.listed.table in sym (length-take-le t.count t.starts (omega (arith, starts_size s, s.requires.1.fits)))

slice-aggregate-prepare : tie.Need-slice_bounds-prepare-end
slice-aggregate-prepare c = refl

slice-aggregate-prepare-2 : tie.Need-slice_bounds-prepare-end-2
slice-aggregate-prepare-2 c = refl

slice-aggregate-prepare-3 : tie.Need-slice_bounds-prepare-end-3
slice-aggregate-prepare-3 c = refl

array-share-prefix-starts : tie.Need-slice_bounds-starts-end
array-share-prefix-starts c = let s = taken c in omega (arith, starts_size s, s.requires.1.fits)

slice-aggregate-prepare-4 : tie.Need-slice_bounds-prepare-end-4
slice-aggregate-prepare-4 c = own_starts (taken c.before)

prepare-requires : tie.Need-prepare-requires
prepare-requires c κs = (refl, refl, refl, (taken c.before).requires.1.holds)

array-share-prefix-starts-2 : tie.Need-slice_bounds-starts-end-2
array-share-prefix-starts-2 c = let s = taken (lent (prepared c)) in omega (arith, starts_size s, s.requires.1.fits)

slice-aggregate-check-log : tie.Need-slice_bounds-check_log-end
slice-aggregate-check-log c = own_starts (taken (lent (prepared c.before)))

slice-aggregate-check-log-2 : tie.Need-slice_bounds-check_log-end-2
slice-aggregate-check-log-2 c = omega (arith, (prepared c.before.before).prepare.ensures.needs.size)

slice-aggregate-check-log-3 : tie.Need-slice_bounds-check_log-end-3
slice-aggregate-check-log-3 c = omega (arith, (prepared c.before.before.before).prepare.ensures.needs.counted)

slice-aggregate-check-log-4 : tie.Need-slice_bounds-check_log-end-4
slice-aggregate-check-log-4 c = omega (arith, (prepared (again c)).prepare.ensures.keyed.size)

array-share-prefix-places : tie.Need-slice_bounds-places-end
array-share-prefix-places c = let s = taken (lent (prepared (again c))) in omega (arith, places_size s, s.requires.2.fits)

slice-aggregate-check-log-5 : tie.Need-slice_bounds-check_log-end-5
slice-aggregate-check-log-5 c =
    let s = taken (lent (prepared (again c.before))) in
    let l = s.args.listed in
    sym (length-take-le l.logged l.places (omega (arith, places_size s, s.requires.2.fits)))

check-log-requires : tie.Need-check_log-requires
check-log-requires c κs =
    let p = prepared (again c.before) in
    let s = taken (lent p) in
    let l = s.args.listed in (
      s.requires.1.holds,
      p.prepare.ensures,
      record {
        few = omega (arith, length-take l.logged l.places, s.requires.2.fits);
        small = λ i k. omega (arith, (read s).inside i k, deltas_length s.args.b.now (starts_of l.table));
      },
    )

returns : tie.Need-returns
returns c = c.check_log.ensures

pub check_listed_spec : {M : Type 1} → statement M
check_listed_spec =
    tie.close
    (tie.spec
    slice-aggregate-prepare
    slice-aggregate-prepare-2
    slice-aggregate-prepare-3
    array-share-prefix-starts
    slice-aggregate-prepare-4
    prepare-requires
    array-share-prefix-starts-2
    slice-aggregate-check-log
    slice-aggregate-check-log-2
    slice-aggregate-check-log-3
    slice-aggregate-check-log-4
    array-share-prefix-places
    slice-aggregate-check-log-5
    check-log-requires
    returns)
