-- Effective blocks ascend along the log.
use Rattle.std.specs.Prelude.{◌≡◌, not, ℕ, zero, suc, ◌≤◌, max, T, ltb}
use Rattle.std.proofs.Common.{sym, ap, subst, arith, nltb→le}
use Rattle.model.specs.Lists.{◌∈◌, greatest}
use Rattle.model.specs.Message.{Message, sequence_of}
use Rattle.model.specs.Order.{State, RightSet, find, needs, own_block, block_along, effective_block, key_of, less, log_of}
use Rattle.laws_order.specs.ListLaws.{greatest_≤}
use Rattle.laws_order.specs.TestLaws.{nor_l, greatest_≥}
use Rattle.laws_order.specs.KeyOrder.{less_total}
use Rattle.laws_state.specs.SetLaws.{find_here}
use Rattle.laws_state.specs.LogLaws.{log_received, log_executable, log_closed}
use Rattle.laws_state.specs.EffectiveLaws.{effective_is}
use Rattle.laws_order.specs.MaxLaws.{le_right, max_less}
use Rattle.laws_order.specs.Ascent.{Ascends, first_ascends}

module _ (S : State) (right : RightSet S) where
  -- the effective block of the delta of a sequence
  abbrev block_at : ℕ → ℕ
  block_at s = effective_block S (find S.deltas s)

  block_here : (x : Message) → x ∈ S.deltas → block_at (sequence_of x) ≡ effective_block S x
  block_here x k = ap (effective_block S) (find_here S.deltas right.ascends x k)

  pub logged_is : (b : Message) → b ∈ log_of S
      → effective_block S b ≡ max (own_block S b) (greatest (λ s. effective_block S (find S.deltas s)) (needs S b))
  logged_is b k =
      let r : b ∈ S.deltas = log_received S right.ascends b k in
      effective_is S right.ascends right.fits b r ((log_executable S right.ascends b r).0 k)

  by_key : (a b : Message) → T (not (less (key_of S b) (key_of S a))) → effective_block S a ≤ effective_block S b
  by_key a b t = nltb→le (effective_block S b) (effective_block S a) (nor_l (ltb (effective_block S b) (effective_block S a)) _ t)

  by_need : (b : Message) → b ∈ log_of S → (x : Message) → x ∈ S.deltas → sequence_of x ∈ needs S b → effective_block S x ≤ effective_block S b
  by_need b k x j i =
      let g : block_at (sequence_of x) ≤ greatest block_at (needs S b) = greatest_≥ block_at (needs S b) (sequence_of x) i in
      subst (λ (n : ℕ). effective_block S x ≤ n) (sym (logged_is b k))
      (le_right (own_block S b) (subst (λ (n : ℕ). n ≤ greatest block_at (needs S b)) (block_here x j) g))

  pub effective_ascends : Ascends (effective_block S) (log_of S)
  unfolding log_of
  effective_ascends = first_ascends sequence_of (needs S) (key_of S) less less_total S.deltas (effective_block S) by_key by_need

  -- along fewer needs a block is no greater
  pub along_least : (n : ℕ) (a : Message) → a ∈ log_of S → block_along S n (sequence_of a) ≤ effective_block S a
  along_least zero a k = omega arith
  along_least (suc n) a k =
      subst (λ (i : ℕ). i ≤ effective_block S a) (sym at)
      (subst (λ (i : ℕ). max (own_block S a) (greatest (block_along S n) (needs S a)) ≤ i) (sym (logged_is a k))
      (max_less (own_block S a) (least (along_least n))))
    where
      at : block_along S (suc n) (sequence_of a) ≡ max (own_block S a) (greatest (block_along S n) (needs S a))
      at = ap (λ (x : Message). max (own_block S x) (greatest (block_along S n) (needs S x)))
          (find_here S.deltas right.ascends a (log_received S right.ascends a k))

      least : ((x : Message) → x ∈ log_of S → block_along S n (sequence_of x) ≤ effective_block S x)
          → greatest (block_along S n) (needs S a) ≤ greatest block_at (needs S a)
      least along = greatest_≤ (block_along S n) (needs S a) (greatest block_at (needs S a)) (λ s j.
          let r = log_closed S right.ascends a k s j in
          let ih : block_along S n (sequence_of r.0) ≤ effective_block S r.0 = along r.0 r.1 in
          let e : block_at (sequence_of r.0) ≡ effective_block S r.0 = block_here r.0 (log_received S right.ascends r.0 r.1) in
          let u : block_at s ≡ block_at (sequence_of r.0) = ap block_at (sym r.2) in
          let w : block_along S n s ≡ block_along S n (sequence_of r.0) = ap (block_along S n) (sym r.2) in
          omega (arith, greatest_≥ block_at (needs S a) s j))
