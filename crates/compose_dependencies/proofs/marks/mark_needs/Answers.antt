-- The row of each place is there, and what it holds is an index or missing.
use Rattle.std.proofs.Common.{◌≡◌, sym, ◌∙◌, ap, subst, arith, ℕ, ◌+◌, ◌*◌, ◌-◌, List, map, length, take, drop, get_or}
use Rattle.model.specs.Bytes.{join}
use Rattle.laws_order.specs.ListLaws.{get_d_∈}
use Rattle.set_table.specs.Places.{AllBelow}
use Rattle.set_needs.specs.Rows.{row_size, row_in}
use Rattle.set_readiness.specs.Ready.{marks_size}
use Rattle.compose_dependencies.specs.Marks.{marked}
use Rattle.compose_dependencies.specs.MarkLaws.{needs_next, row_lent, row_below}
use Rattle.compose_dependencies.proofs.marks.mark_needs.Goals as goal

pub bounds-counts-i : goal.bounds-counts-i
bounds-counts-i c = (c.requires.1 _ (get_d_∈ c.args.places.now c.loop-place.place-index 0 c.loop-place-test.true)).here

pub slice_bounds-mark-end : goal.slice_bounds-mark-end
slice_bounds-mark-end c = omega (arith, (c.requires.1 _ (get_d_∈ c.args.places.now c.loop-place.place-index 0 c.loop-place-test.true)).inside)

pub mark-requires : goal.mark-requires
mark-requires c =
    let rows = c.args.rows.now in
    let counts = c.args.counts.now in
    let i = get_or c.args.places.now c.loop-place.place-index 0 in
    let below = row_below rows counts i (c.requires.1 i (get_d_∈ c.args.places.now c.loop-place.place-index 0 c.loop-place-test.true)) in
    let size : marks_size ≡ length c.loop-place.marks = sym (c.loop-place.auto.marks ∙ c.requires.0) in
    subst (λ (n : ℕ). AllBelow n (take (row_size * i + get_or counts i 0 - row_size * i) (drop (row_size * i) rows))) size
    (subst (AllBelow marks_size) (sym (row_lent rows counts i)) below)

pub loop-place-preserved : goal.loop-place-preserved
loop-place-preserved c =
    let l = c.loop-place in
    let rows = c.args.rows.now in
    let counts = c.args.counts.now in
    let places = c.args.places.now in
    let new = c.mark.ensures ∙ ap (marked l.marks) (row_lent rows counts (get_or places l.place-index 0)) in
    ap (λ (m : List ℕ). marked m (join (map (row_in rows counts) (drop (l.place-index + 1) places)))) new
    ∙ sym (needs_next (row_in rows counts) l.marks places l.place-index c.loop-place-test.true) ∙ l.invariant
