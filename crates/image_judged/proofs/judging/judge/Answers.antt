-- A buffer whose log is not that of its set, or which is not the image of its set, is no image; any other is.
use Rattle.std.proofs.Common.{refl, sym, ◌∙◌, ap, subst, arith, ◌≡◌, Bool, true, false, List, ◌++◌, ℕ, ◌-◌, ◌≤◌, length, take, drop, length-take-le, Err}
use Rattle.std.specs.Prelude.{T, replicate}
use Rattle.std.proofs.lemmas.Result.{err_from_is_err_and}
use Rattle.std.proofs.Math.ListN.{length-replicate}
use Rattle.model.specs.Lists.{same}
use Rattle.model.specs.Order.{State}
use Rattle.model.specs.Layout.{image_size}
use Rattle.model.specs.Image.{used_of, image_of, is_image}
use Rattle.laws_order.specs.TestLaws.{same→eq}
use Rattle.laws_state.specs.ImageLaws.{used_fits}
use Rattle.laws_state.specs.UsedLaws.{over_zeros, past_used}
use Rattle.set_table.specs.declared.Table.{Table}
use Rattle.set_table.specs.Table.{starts_of, set_in}
use Rattle.image_table.specs.TableReading.{IsTable}
use Rattle.image_log.specs.LogRead.{ReadsLog}
use Rattle.image_listed.specs.declared.Station.{Station}
use Rattle.image_listed.specs.Listed.{ListsLog}
use Rattle.image_judged.specs.Judging.{Blank}
use Rattle.image_judged.specs.JudgingLaws.{judged, other_log, refused}
use Rattle.image_judged.proofs.judging.judge.Goals as goal

-- what was listed: the table is the one that was read, and so is the log
module _ (b : List ℕ) (t : Table) (r : Station) (table : IsTable b t) (listed : ListsLog b t r) where
  is_table : IsTable b r.table
  is_table = subst (IsTable b) (sym listed.table) table

  is_read : ReadsLog b (starts_of r.table) r.logged r.places
  is_read = subst (λ (x : Table). ReadsLog b (starts_of x) r.logged r.places) (sym listed.table) listed.log

  abbrev S : State
  S = set_in b (starts_of r.table)

  -- the used bytes, written into zeros, are the image of the set
  module _ (copy out : List ℕ) (blank : Blank copy) (bytes : out ≡ used_of S ++ drop (length (used_of S)) copy) where
    image_is : take image_size out ≡ image_of S
    image_is =
        ap (take image_size) (bytes ∙ ap (λ (x : List ℕ). used_of S ++ drop (length (used_of S)) x) blank.zeros)
        ∙ over_zeros S blank.count blank.room (used_fits S is_table.holds)

    -- whether the buffer is an image is what the comparison says
    compared : {e : Bool} → e ≡ same (take image_size out) b → is_image b ≡ e
    compared e = judged b r.table is_table ∙ ap (λ (i : List ℕ). same i b) (sym image_is) ∙ sym e

large : (copy : List ℕ) → Blank copy → image_size ≤ length copy
large copy blank = omega (arith, blank.room, ap length blank.zeros, length-replicate {A = ℕ} blank.count 0)

pub returns-in_err-check_listed : goal.returns-in_err-check_listed
returns-in_err-check_listed c =
    let b = c.args.b.now in
    let r = c.list-listed.result in
    let p = err_from_is_err_and c.from_residual.result c.from_residual.ensures.1 in
    refused b c.args.copy.now c.from_residual.result (p.1 ∙ ap Err (p.2 ∙ c.in_err-check_listed.ensures.0))
    (other_log b r.table (is_table b c.args.table r c.requires.2 c.list-listed.ensures) r.logged r.places (is_read b c.args.table r c.requires.2 c.list-listed.ensures) c.in_err-check_listed.ensures.1)

pub slice_bounds-equals_copy-end-2 : goal.slice_bounds-equals_copy-end-2
slice_bounds-equals_copy-end-2 c =
    sym (length-take-le image_size c.rewrite-used.new.out (omega (arith, c.rewrite-used.auto.out, large c.args.copy.now c.requires.3)))

pub equals_copy-differs-requires : goal.equals_copy-differs-requires
equals_copy-differs-requires c =
    let b = c.args.b.now in
    let r = c.list-listed.result in
    let used = c.rewrite-used.result in
    let set = set_in b (starts_of r.table) in
    let table = is_table b c.args.table r c.requires.2 c.list-listed.ensures in
    let image = image_is b c.args.table r c.requires.2 c.list-listed.ensures c.args.copy.now c.rewrite-used.new.out c.requires.3 c.rewrite-used.ensures.bytes in (
      length-take-le image_size c.rewrite-used.new.out (omega (arith, c.rewrite-used.auto.out, large c.args.copy.now c.requires.3)) ∙ sym c.requires.0,
      omega (arith, c.rewrite-used.ensures.end, used_fits set table.holds, c.requires.0),
      ap (drop used) image ∙ past_used set used c.rewrite-used.ensures.end ∙ ap (λ (n : ℕ). replicate (n - used) 0) (sym c.requires.0),
    )

pub returns-then-differs : goal.returns-then-differs
returns-then-differs c =
    let differs = compared c.args.b.now c.args.table c.list-listed.result c.requires.2 c.list-listed.ensures c.args.copy.now c.rewrite-used.new.out c.requires.3 c.rewrite-used.ensures.bytes c.equals_copy-differs.ensures in
    ((refl, differs ∙ c.if-differs.true), tt)

pub returns : goal.returns
returns c =
    let b = c.args.b.now in
    let r = c.list-listed.result in
    let equal = c.if-differs.false in
    let whole = compared b c.args.table r c.requires.2 c.list-listed.ensures c.args.copy.now c.rewrite-used.new.out c.requires.3 c.rewrite-used.ensures.bytes c.equals_copy-differs.ensures in (
      record {
        image = subst T (sym (whole ∙ equal)) tt;
        table = is_table b c.args.table r c.requires.2 c.list-listed.ensures;
        log = c.in_ok-check_listed.ensures;
        inside = (is_read b c.args.table r c.requires.2 c.list-listed.ensures).inside;
        count = c.list-listed.ensures.count;
        fits = c.list-listed.ensures.fits;
        offsets = c.list-listed.ensures.offsets;
      },
      same→eq (take image_size c.rewrite-used.new.out) b (subst T (sym equal ∙ c.equals_copy-differs.ensures) tt),
    )
