-- What a purge leaves of a valid state's log keeps its effective blocks, and so its keys.
use Rattle.std.specs.Prelude.{◌≡◌, List, [], ◌++◌, ℕ, zero, suc, ◌≤◌, max, take, drop}
use Rattle.std.proofs.Math.Path.{refl}
use Rattle.std.proofs.Common.{sym, ◌∙◌, ap, subst, ⊎_elim, zero-le, arith, le_refl, le_trans, take-append-drop}
use mathlib.Core.List.Memᴰ
use Rattle.std.proofs.Math.Nat.{max-le, max-eq_right}
use Rattle.model.specs.Lists.{◌∈◌, greatest}
use Rattle.model.specs.Message.{Message, sequence_of, block_of}
use Rattle.model.specs.Order.{State, RightSet, find, sequences_of, needs, Listing, own_block, block_along, effective_block, stated_priority, key_with, key_of, log_of}
use Rattle.model.specs.Purge.{origin_past, purge_first}
use Rattle.laws_order.specs.ListLaws.{greatest_≤, ∈_take, ∈_drop}
use Rattle.laws_order.specs.TestLaws.{greatest_≥}
use Rattle.laws_order.specs.Behind.{parts_apart}
use Rattle.laws_state.specs.SetLaws.{find_here}
use Rattle.laws_state.specs.LogLaws.{log_complete, log_received, log_closed}
use Rattle.laws_order.specs.MaxLaws.{le_left, le_right, max_less, raised_same}
use Rattle.laws_order.specs.Ascent.{Ascends, ascends_across}
use Rattle.laws_state.specs.AscentLaws.{logged_is, effective_ascends, along_least}
use Rattle.laws_purge.specs.PurgedFloors.{left_is, left_ascends, needs_fewer, needs_others}

module _ (S : State) (right : RightSet S) (K : ℕ) where
  abbrev gone : List Message
  gone = take K (log_of S)

  abbrev rest : List Message
  rest = drop K (log_of S)

  abbrev R : State
  R = purge_first K S

  received : (m : Message) → m ∈ log_of S → m ∈ S.deltas
  received = log_received S right.ascends

  split : gone ++ rest ≡ log_of S
  split = take-append-drop K (log_of S)

  -- what is left of the log is left
  pub rest_left : (m : Message) → m ∈ drop K (log_of S) → m ∈ (purge_first K S).deltas
  rest_left m k = (left_is S right K m).1 (
    received m (∈_drop K (log_of S) k),
    λ j.
        let r = Memᴰ.of_map sequence_of gone j in
        parts_apart sequence_of (needs S) gone rest [] (subst (Listing S []) (sym split) (log_complete S right.ascends).listing) r.0 m r.1 k r.2,
  )

  -- and so is what it needs still
  rest_closed : (m : Message) → m ∈ drop K (log_of S) → (s : ℕ) → s ∈ needs (purge_first K S) m
      → (a : Message) × (a ∈ drop K (log_of S)) × (sequence_of a ≡ s)
  rest_closed m k s j =
      let f = needs_fewer S right K m (rest_left m k) s j in
      let r = log_closed S right.ascends m (∈_drop K (log_of S) k) s f.0 in
      ⊎_elim (λ i. absurd (f.1 (Memᴰ.cast (sym r.2) (Memᴰ.map sequence_of i)))) (λ i. (r.0, i, r.2))
      (Memᴰ.append_cases gone (subst (λ (l : List Message). r.0 ∈ l) (sym split) r.1))

  -- ---- the greatest purged block: not below those that are gone, not above those that are left
  abbrev top : ℕ
  top = R.origin.block

  top_is : top ≡ max S.origin.block (greatest (effective_block S) gone)
  unfolding purge_first origin_past
  top_is = refl

  old_block : S.origin.block ≤ top
  old_block = omega (arith, top_is)

  gone_low : (m : Message) → m ∈ gone → effective_block S m ≤ top
  gone_low m k = subst (λ (n : ℕ). effective_block S m ≤ n) (sym top_is) (le_right S.origin.block (greatest_≥ (effective_block S) gone m k))

  rest_high : (m : Message) → m ∈ rest → top ≤ effective_block S m
  rest_high m k = subst (λ (n : ℕ). n ≤ effective_block S m) (sym top_is) (max-le old new)
    where
      old : S.origin.block ≤ effective_block S m
      old = subst (λ (n : ℕ). S.origin.block ≤ n) (sym (logged_is S right m (∈_drop K (log_of S) k)))
          (le_left (greatest (λ s. effective_block S (find S.deltas s)) (needs S m)) (le_right (block_of m) (le_refl S.origin.block)))

      new : greatest (effective_block S) gone ≤ effective_block S m
      new = greatest_≤ (effective_block S) gone (effective_block S m)
          (λ x j. ascends_across (effective_block S) gone rest (subst (Ascends (effective_block S)) (sym split) (effective_ascends S right)) x m j k)

  -- ---- blocks along so many needs, before and after, differ by no more than it
  abbrev Near : ℕ → ℕ → Type 0
  Near i s = (block_along S i s ≤ max top (block_along R i s)) × (block_along R i s ≤ max top (block_along S i s))

  module _ (i : ℕ) (near : (x : Message) → x ∈ rest → Near i (sequence_of x)) (m : Message) (k : m ∈ rest) where
    gone_need : (s : ℕ) → s ∈ sequences_of gone → block_along S i s ≤ top
    gone_need s j =
        let r = Memᴰ.of_map sequence_of gone j in
        le_trans (subst (λ (u : ℕ). block_along S i u ≤ effective_block S r.0) r.2 (along_least S right i r.0 (∈_take K (log_of S) r.1)))
        (gone_low r.0 r.1)

    near_need : (s : ℕ) → s ∈ needs R m → Near i s
    near_need s j = let r = rest_closed m k s j in subst (Near i) r.2 (near r.0 r.1)

    before_near : greatest (block_along S i) (needs S m) ≤ max top (greatest (block_along R i) (needs R m))
    before_near = greatest_≤ (block_along S i) (needs S m) _ (λ s j. ⊎_elim
        (λ p. le_left (greatest (block_along R i) (needs R m)) (gone_need s p))
        (λ q. le_trans (near_need s q).0 (max_less top (greatest_≥ (block_along R i) (needs R m) s q)))
        (needs_others S right K m (rest_left m k) s j))

    after_near : greatest (block_along R i) (needs R m) ≤ max top (greatest (block_along S i) (needs S m))
    after_near = greatest_≤ (block_along R i) (needs R m) _ (λ s j.
        le_trans (near_need s j).1 (max_less top (greatest_≥ (block_along S i) (needs S m) s (needs_fewer S right K m (rest_left m k) s j).0)))

    one_more : max top (block_along S (suc i) (sequence_of m)) ≡ block_along R (suc i) (sequence_of m)
    one_more = ap (max top) before ∙ raised_same (block_of m) old_block before_near after_near ∙ sym after
      where
        before : block_along S (suc i) (sequence_of m) ≡ max (own_block S m) (greatest (block_along S i) (needs S m))
        before = ap (λ (x : Message). max (own_block S x) (greatest (block_along S i) (needs S x)))
            (find_here S.deltas right.ascends m (received m (∈_drop K (log_of S) k)))

        after : block_along R (suc i) (sequence_of m) ≡ max (own_block R m) (greatest (block_along R i) (needs R m))
        after = ap (λ (x : Message). max (own_block R x) (greatest (block_along R i) (needs R x)))
            (find_here R.deltas (left_ascends S right K) m (rest_left m k))

  near_all : (n : ℕ) (x : Message) → x ∈ rest → Near n (sequence_of x)
  near_all zero x k = (zero-le, zero-le)
  near_all (suc n) x k =
      let e = one_more n (near_all n) x k in (
        subst (λ (u : ℕ). block_along S (suc n) (sequence_of x) ≤ max top u) e (le_right top (le_right top (le_refl _))),
        subst (λ (u : ℕ). u ≤ max top (block_along S (suc n) (sequence_of x))) e (le_refl _),
      )

  -- What is left of the log keeps its effective block,
  pub effective_stays : (m : Message) → m ∈ drop K (log_of S) → effective_block (purge_first K S) m ≡ effective_block S m
  effective_stays m k = sym (one_more 63 (near_all 63) m k) ∙ max-eq_right (rest_high m k)

  -- and its key.
  pub key_stays : (m : Message) → m ∈ drop K (log_of S) → key_of (purge_first K S) m ≡ key_of S m
  key_stays m k = ap (λ (e : ℕ). key_with e (stated_priority m) m) (effective_stays m k)
