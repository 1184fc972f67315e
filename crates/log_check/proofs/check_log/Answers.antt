-- A delta that is not ready, or not above those that it has to be above, shows that this is not the log; where none is ready in the end it is.
use Rattle.std.proofs.Common.{arith, refl, sym, ◌∙◌, subst, ◌≡◌, Bool, true, false, List, ℕ, ◌+◌, ◌≤◌, ◌<◌, length, get_or, set}
use Rattle.std.proofs.lemmas.List.{length-map}
use Rattle.laws_order.specs.ListLaws.{get_d_∈}
use Rattle.model.specs.Order.{State}
use Rattle.set_table.specs.Table.{message_from, set_in, Holds}
use Rattle.set_needs.specs.Rows.{RowFits}
use Rattle.set_needs.specs.RowLaws.{rows_fit}
use Rattle.set_readiness.specs.Ready.{ready_in}
use Rattle.log_prepared.specs.Keys.{PreparedRight}
use Rattle.log_check.specs.Above.{Above}
use Rattle.log_check.specs.Waiting.{ready_from, AllFit, AnyReady}
use Rattle.log_check.specs.Checking.{Inside, Checking}
use Rattle.log_check.specs.CheckingLaws.{checking_none, comparable, start_small, now_ready, checking_more, not_ready, not_above, not_whole, is_log}
use Rattle.log_check.proofs.check_log.Goals as goal

module _ (pool starts rows counts keys places : List ℕ) (holds : Holds pool starts) (prepared : PreparedRight (set_in pool starts) rows counts keys)
    (within : Inside (set_in pool starts) places) where
  abbrev S : State
  S = set_in pool starts

  all_fit : AllFit rows counts (length starts)
  all_fit =
      let size = length-map starts (message_from pool) in
      record { few = omega (arith, holds.fits); rows_fit = λ i h. rows_fit S holds prepared.needs i (omega arith) }

  module _ (k : ℕ) (h : k < length places) where
    small : get_or places k 0 < length S.deltas
    small = within.small (get_or places k 0) (get_d_∈ places k 0 h)

    fits : RowFits rows counts (get_or places k 0)
    fits = rows_fit S holds prepared.needs (get_or places k 0) small

    module _ (placed ends froms : List ℕ) (c : Checking S keys places placed ends froms k) where
      -- the delta is ready, and was so from a place on that is not behind its own
      early : ready_in rows counts placed (get_or places k 0) ≡ true → ready_from rows counts ends (get_or places k 0) ≤ k
      early r =
          start_small S holds places within rows counts prepared.needs keys prepared.keyed placed ends froms k c h
          (now_ready S holds places within rows counts prepared.needs keys prepared.keyed placed ends froms k c h r)

      -- what the comparison says, from where the delta was ready
      compared : {from : ℕ} {a : Bool} (t : Bool) → from ≡ ready_from rows counts ends (get_or places k 0) → a ≡ t → Above keys places from k a
          → Above keys places (ready_from rows counts ends (get_or places k 0)) k t
      compared {from} t e q h' = subst (λ (x : ℕ). Above keys places x k t) e (subst (Above keys places from k) q h')

pub loop-k-init : goal.loop-k-init
loop-k-init c =
    checking_none (set_in c.args.pool.now c.args.starts.now) c.requires.0 c.args.places.now c.requires.2 c.args.rows.now c.args.counts.now c.requires.1.needs c.args.keys.now c.requires.1.keyed

pub ready-requires : goal.ready-requires
ready-requires c =
    let a = c.args in
    let l = c.loop-k in (
      fits a.pool.now a.starts.now a.rows.now a.counts.now a.keys.now a.places.now c.requires.0 c.requires.1 c.requires.2 l.k c.loop-k-test.true,
      l.invariant.placing.marks.size,
      omega (arith, small a.pool.now a.starts.now a.rows.now a.counts.now a.keys.now a.places.now c.requires.0 c.requires.1 c.requires.2 l.k c.loop-k-test.true, c.requires.0.fits),
    )

pub returns-then-not-ready : goal.returns-then-not-ready
returns-then-not-ready c =
    let a = c.args in
    let l = c.loop-k in (
      refl,
      not_ready (set_in a.pool.now a.starts.now) c.requires.0 a.places.now c.requires.2 a.rows.now a.counts.now c.requires.1.needs a.keys.now c.requires.1.keyed
          l.placed l.ends l.froms l.k l.invariant c.loop-k-test.true (sym c.ready.ensures ∙ c.if-not-ready.true),
    )

pub ready_from-from-requires : goal.ready_from-from-requires
ready_from-from-requires c =
    let a = c.args in
    (fits a.pool.now a.starts.now a.rows.now a.counts.now a.keys.now a.places.now c.requires.0 c.requires.1 c.requires.2 c.loop-k.k c.loop-k-test.true, c.loop-k.invariant.ends_size)

pub above-requires : goal.above-requires
above-requires c =
    let a = c.args in
    let l = c.loop-k in
    comparable (set_in a.pool.now a.starts.now) c.requires.0 a.places.now c.requires.2 a.rows.now a.counts.now c.requires.1.needs a.keys.now c.requires.1.keyed
    l.placed l.ends l.froms l.k l.invariant c.loop-k-test.true

pub returns-then-not-above : goal.returns-then-not-above
returns-then-not-above c =
    let a = c.args in
    let l = c.loop-k in (
      refl,
      not_above (set_in a.pool.now a.starts.now) c.requires.0 a.places.now c.requires.2 a.rows.now a.counts.now c.requires.1.needs a.keys.now c.requires.1.keyed
          l.placed l.ends l.froms l.k l.invariant c.loop-k-test.true (sym c.ready.ensures ∙ c.if-not-ready.false)
          (compared a.pool.now a.starts.now a.rows.now a.counts.now a.keys.now a.places.now c.requires.0 c.requires.1 c.requires.2 l.k c.loop-k-test.true l.placed l.ends l.froms l.invariant
          false c.ready_from-from.ensures c.if-not-above.true c.above.ensures),
    )

pub bounds-placed-i : goal.bounds-placed-i
bounds-placed-i c =
    let a = c.args in
    omega (arith, small a.pool.now a.starts.now a.rows.now a.counts.now a.keys.now a.places.now c.requires.0 c.requires.1 c.requires.2 c.loop-k.k c.loop-k-test.true, c.requires.0.fits)

pub overflow_cast-froms : goal.overflow_cast-froms
overflow_cast-froms c =
    let a = c.args in
    let l = c.loop-k in
    omega (
      arith,
      c.ready_from-from.ensures,
      c.requires.2.few,
      early a.pool.now a.starts.now a.rows.now a.counts.now a.keys.now a.places.now c.requires.0 c.requires.1 c.requires.2 l.k c.loop-k-test.true l.placed l.ends l.froms l.invariant
          (sym c.ready.ensures ∙ c.if-not-ready.false),
    )

pub bounds-ends-i : goal.bounds-ends-i
bounds-ends-i c =
    let a = c.args in
    omega (arith, small a.pool.now a.starts.now a.rows.now a.counts.now a.keys.now a.places.now c.requires.0 c.requires.1 c.requires.2 c.loop-k.k c.loop-k-test.true, c.requires.0.fits)

pub loop-k-preserved : goal.loop-k-preserved
loop-k-preserved c =
    let a = c.args in
    let l = c.loop-k in
    let S = set_in a.pool.now a.starts.now in
    let i = get_or a.places.now l.k 0 in
    subst (λ (x : ℕ). Checking S a.keys.now a.places.now (set l.placed i 1) (set l.ends i (l.k + 1)) (set l.froms l.k x) (l.k + 1)) (sym c.ready_from-from.ensures)
    (checking_more S c.requires.0 a.places.now c.requires.2 a.rows.now a.counts.now c.requires.1.needs a.keys.now c.requires.1.keyed
    l.placed l.ends l.froms l.k l.invariant c.loop-k-test.true (sym c.ready.ensures ∙ c.if-not-ready.false)
    (compared a.pool.now a.starts.now a.rows.now a.counts.now a.keys.now a.places.now c.requires.0 c.requires.1 c.requires.2 l.k c.loop-k-test.true l.placed l.ends l.froms l.invariant
    true c.ready_from-from.ensures c.if-not-above.false c.above.ensures))

pub any_ready-requires : goal.any_ready-requires
any_ready-requires c =
    let a = c.args in
    (all_fit a.pool.now a.starts.now a.rows.now a.counts.now a.keys.now a.places.now c.requires.0 c.requires.1 c.requires.2, c.loop-k.invariant.placing.marks.size)

-- whether one of the deltas is ready in the end
waiting : (pool starts rows counts placed : List ℕ) {a : Bool} (t : Bool) → a ≡ t → AnyReady rows counts placed (length starts) a
    → AnyReady rows counts placed (length (set_in pool starts).deltas) t
waiting pool starts rows counts placed t q h =
    let size : length starts ≡ length (set_in pool starts).deltas = sym (length-map starts (message_from pool)) in
    subst (λ (n : ℕ). AnyReady rows counts placed n t) size (subst (AnyReady rows counts placed (length starts)) q h)

pub returns-then-any_ready : goal.returns-then-any_ready
returns-then-any_ready c =
    let a = c.args in
    let l = c.loop-k in (
      refl,
      not_whole (set_in a.pool.now a.starts.now) c.requires.0 a.places.now c.requires.2 a.rows.now a.counts.now c.requires.1.needs a.keys.now c.requires.1.keyed
          l.placed l.ends l.froms l.k l.invariant (omega arith) (waiting a.pool.now a.starts.now a.rows.now a.counts.now l.placed true c.if-any_ready.true c.any_ready.ensures),
    )

pub returns : goal.returns
returns c =
    let a = c.args in
    let l = c.loop-k in
    is_log (set_in a.pool.now a.starts.now) c.requires.0 a.places.now c.requires.2 a.rows.now a.counts.now c.requires.1.needs a.keys.now c.requires.1.keyed
    l.placed l.ends l.froms l.k l.invariant (omega arith) (waiting a.pool.now a.starts.now a.rows.now a.counts.now l.placed false c.if-any_ready.false c.any_ready.ensures)
