-- The first by key that is ready is the one that comes next.
use Rattle.std.specs.Prelude.{Option as Found, Some, None, ◌≡◌, refl, true, false, not, List, [], ℕ, ◌+◌, ◌≤◌, ◌<◌, length, get_or, set, T, eqb, ltb}
use Rattle.std.proofs.Common.{sym, ◌∙◌, ap, ap₂, subst, ⊎_elim, arith, get_or-set_same, get_or-set_other, eqb→eq, ltb→lt, nltb→le}
use Rattle.std.proofs.Math.Option.{Option, some, none}
use Rattle.model.specs.Lists.{◌∈◌, keep}
use Rattle.model.specs.Message.{Message, sequence_of}
use Rattle.model.specs.Listing as L
use Rattle.model.specs.Order.{State, RightSet, Executable, needs, placed_by, ready, key_of, less}
use Rattle.laws_order.specs.ListLaws.{get_d_∈, ∈_get_d}
use Rattle.laws_order.specs.TestLaws.{decide, is_true, not_eqb}
use Rattle.laws_order.specs.KeyOrder.{less_total}
use Rattle.laws_order.specs.ListingLaws.{ready_executable, Stuck, Next?, next_is, not_self}
use Rattle.laws_state.specs.LogLaws.{keys_differ}
use Rattle.log_key.specs.Key.{key_in}
use Rattle.set_needs.specs.Rows.{RowsRight}
use Rattle.set_readiness.specs.Ready.{is_placed, ready_in, Placing}
use Rattle.set_readiness.specs.ReadyLaws.{ready_is, ready_marked}
use Rattle.log_prepared.specs.Keys.{KeysRight}
use Rattle.log_sorting.specs.Sorted.{Sorted}
use Rattle.log_listing.specs.Next.{Skips, FirstReady, Picks, NextRight}

-- what holds of all from a place on below k, and of k, holds below k + 1
pub one_more : (P : ℕ → Type 0) (from k : ℕ) → ((a : ℕ) → from ≤ a → a < k → P a) → P k → (a : ℕ) → from ≤ a → a < k + 1 → P a
one_more P from k below here a h q = ⊎_elim (λ e. subst P (sym (eqb→eq a k e)) here) (λ e. let d : a ≡ k → ⊥ = not_eqb a k e in below a h (omega arith)) (decide (eqb a k))

-- what is passed stays so
pub skips_on : (sorted placed : List ℕ) (a b : ℕ) → Skips sorted placed 0 a → Skips sorted placed a b → Skips sorted placed 0 b
skips_on sorted placed a b p r q h k = ⊎_elim (λ t. p q h (ltb→lt q a t)) (λ t. r q (nltb→le q a t) k) (decide (ltb q a))

pub skips_marked : (sorted placed : List ℕ) (first i : ℕ) → i < length placed → Skips sorted placed 0 first → Skips sorted (set placed i 1) 0 first
skips_marked sorted placed first i inside p q h k = ⊎_elim
    (λ t. ap (λ (x : ℕ). is_placed (set placed i 1) x) (eqb→eq (get_or sorted q 0) i t) ∙ ap (λ (x : ℕ). not (eqb x 0)) (get_or-set_same placed i 1 0 inside))
    (λ t. ap (λ (x : ℕ). not (eqb x 0)) (get_or-set_other placed i (get_or sorted q 0) 1 0 (not_eqb (get_or sorted q 0) i t)) ∙ p q h k)
    (decide (eqb (get_or sorted q 0) i))

module _ (S : State) (right : RightSet S) (rows counts keys sorted placed : List ℕ) (rr : RowsRight S rows counts) (kr : KeysRight S keys)
    (all : length sorted ≡ length S.deltas) (by_key : Sorted keys sorted (length S.deltas))
    (from : ℕ) (passed : Skips sorted placed 0 from) where
  -- what is ready stands at a place that is not passed
  module _ (l : List Message) (p : Placing S placed l) where
    ready_at : (i : ℕ) → i < length S.deltas → T (ready S (placed_by l) (get_or S.deltas i [])) → ready_in rows counts placed i ≡ true
    ready_at i h t = ready_is S placed l p rows counts rr i h ∙ is_true (ready S (placed_by l) (get_or S.deltas i [])) t

    not_passed : (q i : ℕ) → get_or sorted q 0 ≡ i → ready_in rows counts placed i ≡ true → from ≤ q
    not_passed q i e t = ⊎_elim
        (λ u. let z : true ≡ false = sym t ∙ ap (ready_in rows counts placed) (sym e) ∙ ready_marked rows counts placed (get_or sorted q 0) (passed q (omega arith) (ltb→lt q from u)) in absurd (subst T z tt))
        (λ u. nltb→le q from u) (decide (ltb q from))

    executable : (i : ℕ) → i < length S.deltas → ready_in rows counts placed i ≡ true → Executable S (get_or S.deltas i [])
    executable i h t =
        ready_executable sequence_of (needs S) S.deltas l p.listing p.received (get_or S.deltas i []) (get_d_∈ S.deltas i [] h)
        (subst T (sym t ∙ ready_is S placed l p rows counts rr i h) tt)

    -- nothing is ready
    stuck : FirstReady rows counts sorted placed from None → Stuck sequence_of (needs S) S.deltas (placed_by l)
    stuck f a k t =
        let r = ∈_get_d [] k in
        let at = by_key.has r.0 r.1 in
        let yes : ready_in rows counts placed r.0 ≡ true = ready_at r.0 r.1 (subst (λ (x : Message). T (ready S (placed_by l) x)) (sym r.2) t) in
        let z : true ≡ false = sym yes ∙ ap (ready_in rows counts placed) (sym at.2) ∙ f at.0 (not_passed at.0 r.0 at.2 yes) (omega (arith, at.1)) in
        subst T z tt

    picks_none : FirstReady rows counts sorted placed from None → Picks S (placed_by l) None
    picks_none f = record { lowest = go (L.lowest_of (key_of S) less (keep (ready S (placed_by l)) S.deltas)) (next_is sequence_of (needs S) (key_of S) less less_total S.deltas (placed_by l)); within = tt }
      where
        go : (o : Option Message) → Next? sequence_of (needs S) (key_of S) less less_total S.deltas (placed_by l) o → none ≡ o
        go none h = refl
        go (some a) h = absurd (stuck f a h.of h.is_ready)

    -- one is
    module _ (i : ℕ) (f : FirstReady rows counts sorted placed from (Some i)) where
      inside : i < length S.deltas
      inside = omega (arith, by_key.inside f.0 (omega (arith, f.1)), f.2)

      abbrev m : Message
      m = get_or S.deltas i []

      is_ready : T (ready S (placed_by l) (get_or S.deltas i []))
      is_ready = subst T (sym f.3 ∙ ready_is S placed l p rows counts rr i inside) tt

      -- none that is ready has a lower key
      least : (j : ℕ) → j < length S.deltas → ready_in rows counts placed j ≡ true → T (not (less (key_of S (get_or S.deltas j [])) (key_of S (get_or S.deltas i []))))
      least j h t =
          let at = by_key.has j h in
          let behind : f.0 ≤ at.0 = later at.0 at.2 t in
          ⊎_elim
          (λ e. let same : i ≡ j = sym f.2 ∙ ap (λ (x : ℕ). get_or sorted x 0) (eqb→eq f.0 at.0 e) ∙ at.2 in
          subst (λ (x : ℕ). T (not (less (key_of S (get_or S.deltas x [])) (key_of S (get_or S.deltas i []))))) same (not_self less less_total (key_of S (get_or S.deltas i []))))
          (λ e. let d : f.0 ≡ at.0 → ⊥ = not_eqb f.0 at.0 e in
          subst T (ap not (ap₂ (λ (x y : ℕ). less (key_in keys x) (key_in keys y)) at.2 f.2 ∙ kr.compared j i h inside (executable j h t) (executable i inside f.3)))
          (by_key.order f.0 at.0 (omega arith) at.1))
          (decide (eqb f.0 at.0))
        where
          later : (q : ℕ) → get_or sorted q 0 ≡ j → ready_in rows counts placed j ≡ true → f.0 ≤ q
          later q e sure = ⊎_elim
              (λ u. let z : true ≡ false = sym sure ∙ ap (ready_in rows counts placed) (sym e) ∙ f.4 q (not_passed q j e sure) (ltb→lt q f.0 u) in absurd (subst T z tt))
              (λ u. nltb→le q f.0 u) (decide (ltb q f.0))

      picks_one : Picks S (placed_by l) (Some i)
      picks_one = record { lowest = go (L.lowest_of (key_of S) less (keep (ready S (placed_by l)) S.deltas)) (next_is sequence_of (needs S) (key_of S) less less_total S.deltas (placed_by l)); within = inside }
        where
          of : get_or S.deltas i [] ∈ S.deltas
          of = get_d_∈ S.deltas i [] inside

          go : (o : Option Message) → Next? sequence_of (needs S) (key_of S) less less_total S.deltas (placed_by l) o → some (get_or S.deltas i []) ≡ o
          go none h = absurd (h (get_or S.deltas i []) of is_ready)
          go (some a) h =
              let r = ∈_get_d [] h.of in
              let yes : ready_in rows counts placed r.0 ≡ true = ready_at r.0 r.1 (subst (λ (x : Message). T (ready S (placed_by l) x)) (sym r.2) h.is_ready) in
              ap some (keys_differ S right.ascends m a of h.of (less_total.tri (key_of S m) (key_of S a) (h.is_least m of is_ready) (subst (λ (x : Message). T (not (less (key_of S x) (key_of S m)))) r.2 (least r.0 r.1 yes))))

  pub next_right : (r : Found ℕ) → FirstReady rows counts sorted placed from r → NextRight S placed r
  next_right (Some i) f l p = picks_one l p i f
  next_right None f l p = picks_none l p f
