-- Each logged delta's block is its effective one.
use mathlib.Core.Path.{refl, ◌∙◌}
use native.Mathlib.Omega.{arith}
use Rattle.model.specs.Order.{State}
use Rattle.set_table.specs.Table.{set_in, deltas_at}
use Rattle.log_highest.specs.BlockLaws.{places_below, highest_effective, effective_small}
use borrow.Author.Rules.{rules}
use Rattle.log_highest.proofs.block.highest_block.Statement.{statement}
use Rattle.log_highest.proofs.block.highest_block.Tie as tie

-- where the call began, from where the rows are there; and that from where the blocks are
abbrev began : tie.After-fill_rows → tie.Start
began c = c.before.before.before.before.before.before

abbrev filled : tie.After-close → tie.After-fill_rows
filled c = c.before.before.before.before.before.before.before

abbrev set : tie.Start → State
set s = set_in s.args.pool.now s.args.starts.now

slice-aggregate-fill-rows : tie.Need-slice_bounds-fill_rows-end
slice-aggregate-fill-rows c = refl

slice-aggregate-fill-rows-2 : tie.Need-slice_bounds-fill_rows-end-2
slice-aggregate-fill-rows-2 c = refl

slice-aggregate-close : tie.Need-slice_bounds-close-end
slice-aggregate-close c = refl

slice-aggregate-close-2 : tie.Need-slice_bounds-close-end-2
slice-aggregate-close-2 c = refl

highest-of-requires : tie.Need-highest_of-requires
highest-of-requires c κs i k =
    let s = began (filled c.before.before.before) in
    let a = s.args in
    omega (arith, places_below a.pool.now a.starts.now a.places.now s.requires i k, s.requires.log.holds.fits, c.close.ensures.closing.effective.size)

returns : tie.Need-returns
returns c =
    let f = filled c.before.before.before.before in
    let s = began f in
    let a = s.args in
    let e = c.highest_of.ensures
    ∙ highest_effective a.pool.now a.starts.now a.places.now s.requires f.fill_rows.new.rows f.fill_rows.new.counts f.fill_rows.ensures c.close.new.blocks c.close.new.order c.close.result c.close.ensures in
    (e, omega (arith, e, effective_small (set s) s.requires.log.holds (deltas_at (set s).deltas a.places.now)))

pub highest_block_spec : {M : Type 1} → statement M
highest_block_spec =
    tie.close
    (tie.spec
    slice-aggregate-fill-rows
    slice-aggregate-fill-rows-2
    (λ c κs. search rules)
    slice-aggregate-close
    slice-aggregate-close-2
    (λ c. search rules)
    (λ c. search rules)
    (λ c κs. search rules)
    (λ c. search rules)
    highest-of-requires
    returns)
