-- One more is placed; none comes next; all are placed.
use Rattle.std.proofs.Common.{◌≡◌, ◌<◌, subst, length, take, arith, rules, Some}
use Rattle.model.specs.Layout.{capacity}
use Rattle.set_table.specs.Table.{set_in}
use Rattle.log_listing.specs.Next.{NextRight}
use Rattle.log_listing.specs.NextLaws.{skips_on, skips_marked}
use Rattle.log_listing.specs.OrderLaws.{growing_none, growing_more, next_inside, growing_stuck, growing_full}
use Rattle.log_listing.proofs.ByKey.{size, fits, lookable, comes_next}
use Rattle.log_listing.proofs.listing.order.Goals as goal

pub loop-init : goal.loop-init
loop-init c =
    let places : length c.args.begun.places ≡ capacity = search rules in
    (growing_none (set_in c.args.pool.now c.args.starts.now) c.requires.0 c.args.begun places c.requires.2 c.requires.3, λ q h r. let z : ⊥ = omega arith in absurd z)

pub first_ready-requires : goal.first_ready-requires
first_ready-requires c =
    let room : length c.sort_by_key-sorted.result ≡ capacity = search rules in (
      lookable c.args.pool.now c.args.starts.now c.requires.0 c.args.rows.now c.args.counts.now c.args.keys.now c.sort_by_key-sorted.result c.requires.1 room c.sort_by_key-sorted.ensures,
      c.loop.invariant.0.grows.placing.marks.size,
    )

pub returns-in_default : goal.returns-in_default
returns-in_default c =
    let room : length c.sort_by_key-sorted.result ≡ capacity = search rules in
    growing_stuck (set_in c.args.pool.now c.args.starts.now) c.requires.0 c.args.begun c.loop.placed c.loop.log c.loop.counter c.loop.invariant.0
    (subst (NextRight (set_in c.args.pool.now c.args.starts.now) c.loop.placed) c.in_default.is
    (comes_next c.args.pool.now c.args.starts.now c.requires.0 c.args.rows.now c.args.counts.now c.args.keys.now c.sort_by_key-sorted.result c.requires.1 room c.sort_by_key-sorted.ensures
    c.loop.placed c.loop.first c.skip_placed-first.result c.loop.invariant.1 c.skip_placed-first.ensures c.first_ready.result c.first_ready.ensures))

pub place-log-requires : goal.place-log-requires
place-log-requires c =
    (c.loop.invariant.0.right, omega (arith, c.loop.invariant.0.count, fits c.args.pool.now c.args.starts.now c.requires.0, c.loop-test.true))

pub loop-preserved : goal.loop-preserved
loop-preserved c =
    let room : length c.sort_by_key-sorted.result ≡ capacity = search rules in
    let here : NextRight (set_in c.args.pool.now c.args.starts.now) c.loop.placed (Some c.in-Some.i) = subst (NextRight (set_in c.args.pool.now c.args.starts.now) c.loop.placed) c.in-Some.is
    (comes_next c.args.pool.now c.args.starts.now c.requires.0 c.args.rows.now c.args.counts.now c.args.keys.now c.sort_by_key-sorted.result c.requires.1 room c.sort_by_key-sorted.ensures
    c.loop.placed c.loop.first c.skip_placed-first.result c.loop.invariant.1 c.skip_placed-first.ensures c.first_ready.result c.first_ready.ensures) in
    let inside : c.in-Some.i < length (set_in c.args.pool.now c.args.starts.now).deltas = next_inside (set_in c.args.pool.now c.args.starts.now) c.requires.0 c.args.begun c.loop.placed c.loop.log c.loop.counter c.loop.invariant.0 c.in-Some.i here in (
      growing_more (set_in c.args.pool.now c.args.starts.now) c.requires.0 c.args.begun c.loop.placed c.loop.log c.loop.counter c.loop.invariant.0
          (omega (arith, size c.args.pool.now c.args.starts.now c.requires.0, c.loop-test.true)) c.in-Some.i here c.place-log.result c.place-log.ensures,
      skips_marked (take (length c.args.starts.now) c.sort_by_key-sorted.result) c.loop.placed c.skip_placed-first.result c.in-Some.i
          (omega (arith, inside, c.requires.0.fits, c.loop.invariant.0.grows.placing.marks.size))
          (skips_on (take (length c.args.starts.now) c.sort_by_key-sorted.result) c.loop.placed c.loop.first c.skip_placed-first.result c.loop.invariant.1 c.skip_placed-first.ensures),
    )

pub returns : goal.returns
returns c =
    growing_full (set_in c.args.pool.now c.args.starts.now) c.requires.0 c.args.begun c.loop.placed c.loop.log c.loop.counter c.loop.invariant.0
    (omega (arith, size c.args.pool.now c.args.starts.now c.requires.0, c.loop-test.false))
