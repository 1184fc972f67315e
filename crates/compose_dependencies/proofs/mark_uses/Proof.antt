-- What is marked by index is in the log, or needed there, by sequence.
use mathlib.Core.Path.{refl, ◌∙◌, ap}
use mathlib.Core.List.{List, map}
use Prim.Native.Nat.{ℕ, ◌<◌}
use native.Mathlib.Omega.{arith}
use lib.ListN.{length, length-map}
use Rattle.model.specs.Bytes.{join}
use Rattle.model.specs.Order.{State}
use Rattle.set_table.specs.Table.{message_from, set_in}
use Rattle.set_table.specs.Places.{AllBelow}
use Rattle.set_needs.specs.Rows.{row_in}
use Rattle.set_needs.specs.RowLaws.{rows_fit}
use Rattle.set_readiness.specs.Ready.{is_placed}
use Rattle.image_sections.specs.LogPlaceLaws.{log_inside}
use Rattle.compose_dependencies.specs.MarkLaws.{fresh_marked}
use Rattle.compose_dependencies.specs.UnneededLaws.{logged_is, needed_is}
use borrow.Author.Rules.{rules}
use Rattle.compose_dependencies.proofs.mark_uses.Statement.{statement}
use Rattle.compose_dependencies.proofs.mark_uses.Tie as tie

-- where the call began, from where the rows are there; and that from where the log is marked
abbrev began : tie.After-fill_rows → tie.Start
began c = c.before.before.before.before.before.before

abbrev filled : tie.After-mark → tie.After-fill_rows
filled c = c.before.before.before.before

abbrev set : tie.Start → State
set s = set_in s.args.pool.now s.args.starts.now

-- the places are the set's
below : (s : tie.Start) → AllBelow (length (set s).deltas) s.args.places.now
below s i k = omega (arith, length-map s.args.starts.now (message_from s.args.pool.now), (log_inside s.args.pool.now s.args.starts.now s.args.places.now s.requires).inside i k)

slice-aggregate-fill-rows : tie.Need-slice_bounds-fill_rows-end
slice-aggregate-fill-rows c = refl

slice-aggregate-fill-rows-2 : tie.Need-slice_bounds-fill_rows-end-2
slice-aggregate-fill-rows-2 c = refl

mark-requires : tie.Need-mark-requires
mark-requires c κs i k = let s = began c.before.before.before in omega (arith, below s i k, s.requires.holds.fits)

mark-needs-requires : tie.Need-mark_needs-requires
mark-needs-requires c κs =
    let f = filled c.before.before.before.before in
    let s = began f in
    (refl, λ i k. rows_fit (set s) s.requires.holds f.fill_rows.ensures i (below s i k))

returns : tie.Need-returns
returns c =
    let f = filled c.before.before.before.before.before.before in
    let s = began f in
    let a = s.args in
    let small : (i : ℕ) → i < length (set s).deltas → i < 65 = λ i h. omega (arith, s.requires.holds.fits) in
    record {
      logged = λ i h.
          ap (λ (m : List ℕ). is_placed m i) c.mark.ensures ∙ fresh_marked a.places.now i (small i h)
          ∙ logged_is (set s) s.requires.holds i h a.places.now (below s) s.requires.log;
      needed = λ i h.
          ap (λ (m : List ℕ). is_placed m i) c.mark_needs.ensures ∙ fresh_marked (join (map (row_in f.fill_rows.new.rows f.fill_rows.new.counts) a.places.now)) i (small i h)
          ∙ needed_is (set s) s.requires.holds i h f.fill_rows.new.rows f.fill_rows.new.counts f.fill_rows.ensures a.places.now (below s) s.requires.log;
    }

pub mark_uses_spec : {M : Type 1} → statement M
mark_uses_spec =
    tie.close
    (tie.spec
    slice-aggregate-fill-rows
    slice-aggregate-fill-rows-2
    (λ c κs. search rules)
    (λ c. search rules)
    mark-requires
    (λ c. search rules)
    (λ c. search rules)
    (λ c. search rules)
    mark-needs-requires
    returns)
