-- A delta that is ready is placed with its effective block; one that is not changes nothing.
use Prim.Native.Nat.{◌+◌, ◌<◌}
use mathlib.Core.Path.{sym, ◌∙◌, ap}
use lib.ListN.{length, set, length-map}
use native.Mathlib.Omega.{arith}
use borrow.Author.Rules.{rules}
use Rattle.set_table.specs.Table.{message_from, set_in}
use Rattle.set_needs.specs.Rows.{RowFits}
use Rattle.set_needs.specs.RowLaws.{rows_fit}
use Rattle.set_readiness.specs.Ready.{greatest_along}
use Rattle.set_closure.specs.Closing.{Tried}
use Rattle.set_closure.specs.ClosingLaws.{tried_idle, tried_more}
use Rattle.set_closure.proofs.placing.try_place.Statement.{statement}
use Rattle.set_closure.proofs.placing.try_place.Tie as tie

-- where the delta's row is first read, and where its effective block is known
abbrev start : tie.After-slice_known-3-1 → tie.Start
start c = c.before.before.before.before.before.before.before

abbrev looked : tie.After-greatest_along-block → tie.After-ready
looked c = c.before.before.before

inside : (s : tie.Start) → s.args.i < length (set_in s.args.pool.now s.args.starts.now).deltas
inside s = omega (arith, length-map s.args.starts.now (message_from s.args.pool.now), s.requires.3)

row : (s : tie.Start) → RowFits s.args.rows.now s.args.counts.now s.args.i
row s = rows_fit (set_in s.args.pool.now s.args.starts.now) s.requires.0 s.requires.1 s.args.i (inside s)

ready-requires : tie.Need-ready-requires
ready-requires c κs = let s = start c in (row s, s.requires.2.placing.marks.size, omega (arith, inside s, s.requires.0.fits))

returns : tie.Need-returns-then-not-ready
returns c =
    let s = start c.before.before in
    tried_idle (set_in s.args.pool.now s.args.starts.now) s.requires.0 s.args.placed.now s.args.blocks.now s.args.order.now s.args.count s.requires.2 s.args.rows.now s.args.counts.now s.args.i
    (sym c.ready.ensures ∙ c.if-not-ready.true)

greatest-along-requires : tie.Need-greatest_along-block-requires
greatest-along-requires c κs = let s = start c.before.before.before in (row s, s.requires.2.effective.size)

-- the delta is placed
placed : (c : tie.After-greatest_along-block) → let s = start (looked c).before in
    Tried (set_in s.args.pool.now s.args.starts.now) s.args.rows.now s.args.counts.now s.args.placed.now s.args.count s.args.i
    (set s.args.placed.now s.args.i 1) (set s.args.blocks.now s.args.i c.greatest_along-block.result) (set s.args.order.now s.args.count s.args.i) (s.args.count + 1)
placed c =
    let s = start (looked c).before in
    tried_more (set_in s.args.pool.now s.args.starts.now) s.requires.0 s.args.placed.now s.args.blocks.now s.args.order.now s.args.count s.requires.2 s.args.rows.now s.args.counts.now s.args.i
    s.requires.1 (inside s) (sym (looked c).ready.ensures ∙ c.if-not-ready.false) c.greatest_along-block.result
    (c.greatest_along-block.ensures ∙ ap (greatest_along s.args.rows.now s.args.counts.now s.args.blocks.now s.args.i) c.own_block.ensures)

slice-write-placed : tie.Need-bounds-placed-i
slice-write-placed c = let s = start (looked c).before in omega (arith, inside s, s.requires.0.fits, s.requires.2.placing.marks.size)

slice-write-blocks : tie.Need-bounds-blocks-i
slice-write-blocks c = let s = start (looked c).before in omega (arith, inside s, s.requires.0.fits, s.requires.2.effective.size)

cast-order : tie.Need-overflow_cast-order
cast-order c = let s = start (looked c).before in omega (arith, inside s, s.requires.0.fits)

slice-write-order : tie.Need-bounds-order-count
slice-write-order c = let s = start (looked c).before in omega (arith, (placed c).closing.few, s.requires.0.fits, s.requires.2.size)

returns-2 : tie.Need-returns
returns-2 c = placed c

pub try_place_spec : {M : Type 1} → statement M
try_place_spec =
    tie.close
    (tie.spec
    ready-requires
    (λ c. search rules)
    returns
    (λ c κs. search rules)
    greatest-along-requires
    slice-write-placed
    (λ c. search rules)
    slice-write-blocks
    cast-order
    slice-write-order
    (λ c. search rules)
    (λ c. search rules)
    (λ c. search rules)
    (λ c. search rules)
    returns-2)
