-- The effective block: that the computed one is the paper's and no other is, and that what is received besides leaves those of logged deltas
-- and their keys.
use Rattle.std.specs.Prelude.{◌≡◌, ◌⊎◌, List, [], ◌∷◌, ◌++◌, length, T}
use Rattle.std.proofs.Math.Path.{refl, ap, ap₂, subst}
use Rattle.std.proofs.Common.{sym, ◌∙◌, inl, inr, ⊎_elim, arith, le_of_suc-le-suc, not-suc-le-zero, add-zero, add-suc, suc-add, length-append}
use mathlib.Core.List.Memᴰ
use Prim.Native.Nat.{ℕ, zero, suc, ◌+◌, ◌≤◌, max}
use Rattle.model.specs.Lists.{◌∈◌, greatest}
use Rattle.model.specs.Layout.{capacity}
use Rattle.model.specs.Message.{Message, sequence_of}
use Rattle.model.specs.Listing as L
use Rattle.model.specs.Order.{Origin, State, holding, Ascending, find, needs, placed_by, ready, Listing, Executable, own_block, block_along, effective_block, stated_priority, key_with, key_of, log_of}
use Rattle.laws_order.specs.TestLaws.{has_all→∈, greatest_cong}
use Rattle.laws_order.specs.ListingLaws.{ready_needs, after_from, listing_length, listing_last}
use Rattle.laws_state.specs.SetLaws.{find_here}
use Rattle.laws_state.specs.LogLaws.{Logged, log_complete, log_executable, log_received, log_closed}

-- along ways of n needs or more the block is the same
abbrev Rest : State → ℕ → ℕ → Type 0
Rest S n s = (k : ℕ) → n ≤ k → block_along S k s ≡ block_along S n s

rest_more : (S : State) (n s : ℕ) → Rest S n s → Rest S (suc n) s
rest_more S n s h = λ k le. h k (omega arith) ∙ sym (h (suc n) (omega arith))

rest_next : (S : State) (n s : ℕ) → ((t : ℕ) → t ∈ needs S (find S.deltas s) → Rest S n t) → Rest S (suc n) s
rest_next S n s h zero le = absurd (not-suc-le-zero le)
rest_next S n s h (suc k) le =
    ap (max (own_block S (find S.deltas s))) (greatest_cong (block_along S k) (block_along S n) (needs S (find S.deltas s)) (λ t j. h t j k (le_of_suc-le-suc le)))

module _ (S : State) (ascends : Ascending S.deltas) where
  listing_rest : (l : List Message) (done : List ℕ) (n : ℕ) → ((s : ℕ) → s ∈ done → Rest S n s) → Listing S done l → ((b : Message) → b ∈ l → b ∈ S.deltas)
      → (s : ℕ) → s ∈ L.after sequence_of done l → Rest S (n + length l) s
  listing_rest [] done n h g all s k = rw add-zero (h s k)
  listing_rest (a ∷ l) done n h g all s k =
      subst (λ (i : ℕ). Rest S i s) (suc-add n (length l) ∙ sym (add-suc n (length l)))
      (listing_rest l (sequence_of a ∷ done) (suc n) one g.1 (λ b j. all b (Memᴰ.tail j)) s k)
    where
      here : find S.deltas (sequence_of a) ≡ a
      here = find_here S.deltas ascends a (all a (Memᴰ.head refl))

      one : (t : ℕ) → t ∈ (sequence_of a ∷ done) → Rest S (suc n) t
      one t j = ⊎_elim
          (λ e. subst (λ (u : ℕ). Rest S (suc n) u) (sym e)
          (rest_next S n (sequence_of a) (λ u i. h u (has_all→∈ (needs S a) done (ready_needs sequence_of (needs S) done a g.0) u (subst (λ (m : Message). u ∈ needs S m) here i)))))
          (λ i. rest_more S n t (h t i)) (Memᴰ.cases_cons j)

  -- the effective block of an executable delta is the greater of its own block and the effective blocks of its needs
  pub effective_is : length S.deltas ≤ capacity → (m : Message) → m ∈ S.deltas → Executable S m
      → effective_block S m ≡ max (own_block S m) (greatest (λ s. effective_block S (find S.deltas s)) (needs S m))
  effective_is small m k r = eq 63 (omega (arith, listing_length sequence_of (needs S) S.deltas (p ++ m ∷ []) r.listing r.received, length-append p (m ∷ [])))
    where
      p : List Message
      p = r.before

      ends : Listing S [] p × T (ready S (placed_by p) m)
      ends = listing_last sequence_of (needs S) p [] m r.listing

      of : (b : Message) → b ∈ p → b ∈ S.deltas
      of b j = r.received b (Memᴰ.append_left (m ∷ []) j)

      there : (s : ℕ) → s ∈ needs S m → s ∈ placed_by p
      there s j = has_all→∈ (needs S m) (placed_by p) (ready_needs sequence_of (needs S) (placed_by p) m ends.1) s j

      same : (s : ℕ) → (s ∈ []) ⊎ ((a : Message) × (a ∈ p) × (sequence_of a ≡ s)) → sequence_of (find S.deltas s) ≡ s
      same s (inl j) = absurd (Memᴰ.not-nil j)
      same s (inr w) = subst (λ (t : ℕ). sequence_of (find S.deltas t) ≡ t) w.2 (ap sequence_of (find_here S.deltas ascends w.0 (of w.0 w.1)))

      eq : (n : ℕ) → length p ≤ n → block_along S (suc n) (sequence_of m) ≡ max (own_block S m) (greatest (λ s. block_along S (suc n) (sequence_of (find S.deltas s))) (needs S m))
      eq n le =
          ap (λ (x : Message). max (own_block S x) (greatest (block_along S n) (needs S x))) (find_here S.deltas ascends m k)
          ∙ ap (max (own_block S m)) (greatest_cong (block_along S n) (λ s. block_along S (suc n) (sequence_of (find S.deltas s))) (needs S m) each)
        where
          each : (s : ℕ) → s ∈ needs S m → block_along S n s ≡ block_along S (suc n) (sequence_of (find S.deltas s))
          each s j =
              let rest : Rest S (0 + length p) s = listing_rest p [] 0 (λ t i. absurd (Memᴰ.not-nil i)) ends.0 of s (there s j) in
              rest n (omega arith) ∙ sym (rest (suc n) (omega arith)) ∙ ap (block_along S (suc n)) (sym (same s (after_from sequence_of p [] (there s j))))

-- ---- and that equation has no other solution on executable deltas
module _ (S : State) (ascends : Ascending S.deltas) (small : length S.deltas ≤ capacity) (f : Message → ℕ)
    (equation : (m : Message) → m ∈ S.deltas → Executable S m → f m ≡ max (own_block S m) (greatest (λ s. f (find S.deltas s)) (needs S m))) where
  -- along a listing, where it agrees for the sequences placed before
  agrees : (l : List Message) (done : List ℕ) → ((s : ℕ) → s ∈ done → f (find S.deltas s) ≡ effective_block S (find S.deltas s))
      → Listing S done l → ((b : Message) → b ∈ l → (b ∈ S.deltas) × Executable S b) → (b : Message) → b ∈ l → f b ≡ effective_block S b
  agrees [] done h g all b k = absurd (Memᴰ.not-nil k)
  agrees (a ∷ l) done h g all b k =
      ⊎_elim (λ e. subst (λ (x : Message). f x ≡ effective_block S x) (sym e) here)
      (λ j. agrees l (sequence_of a ∷ done) more g.1 (λ c i. all c (Memᴰ.tail i)) b j) (Memᴰ.cases_cons k)
    where
      of : (a ∈ S.deltas) × Executable S a
      of = all a (Memᴰ.head refl)

      here : f a ≡ effective_block S a
      here =
          equation a of.0 of.1
          ∙ ap (max (own_block S a)) (greatest_cong (λ s. f (find S.deltas s)) (λ s. effective_block S (find S.deltas s)) (needs S a)
          (λ s j. h s (has_all→∈ (needs S a) done (ready_needs sequence_of (needs S) done a g.0) s j)))
          ∙ sym (effective_is S ascends small a of.0 of.1)

      more : (s : ℕ) → s ∈ sequence_of a ∷ done → f (find S.deltas s) ≡ effective_block S (find S.deltas s)
      more s j = ⊎_elim
          (λ e. subst (λ (x : Message). f x ≡ effective_block S x) (sym (ap (find S.deltas) e ∙ find_here S.deltas ascends a of.0)) here)
          (λ i. h s i) (Memᴰ.cases_cons j)

  pub effective_only : (m : Message) → m ∈ S.deltas → Executable S m → f m ≡ effective_block S m
  effective_only m k e =
      agrees (log_of S) [] (λ s j. absurd (Memᴰ.not-nil j)) (log_complete S ascends).listing (λ b j. (log_complete S ascends).sound b j) m ((log_executable S ascends m k).1 e)

-- ---- what is received besides changes neither block nor key of a logged delta: its needs are all logged, and none is new
module _ (S R : State) (origin : S.origin ≡ R.origin) (ascends : Ascending S.deltas) (ascends' : Ascending R.deltas)
    (more : (x : Message) → x ∈ S.deltas → x ∈ R.deltas) where
  found : (k : Message) → k ∈ log_of S → (find S.deltas (sequence_of k) ≡ k) × (find R.deltas (sequence_of k) ≡ k)
  found k j =
      let here : k ∈ S.deltas = log_received S ascends k j in
      (find_here S.deltas ascends k here, find_here R.deltas ascends' k (more k here))

  block_agrees : (n s : ℕ) → Logged S s → block_along R n s ≡ block_along S n s
  unfolding needs
  block_agrees zero s k = refl
  block_agrees (suc n) s k =
      ap₂ (λ (O : Origin) (x : Message). max (own_block (holding O []) x) (greatest (block_along R n) (needs (holding O []) x))) (sym origin) same
      ∙ ap (max (own_block S (find S.deltas s))) (greatest_cong (block_along R n) (block_along S n) (needs S (find S.deltas s)) (λ t j. block_agrees n t (within t j)))
    where
      it : find S.deltas s ≡ k.0
      it = subst (λ (t : ℕ). find S.deltas t ≡ k.0) k.2 (found k.0 k.1).0

      same : find R.deltas s ≡ find S.deltas s
      same = subst (λ (t : ℕ). find R.deltas t ≡ k.0) k.2 (found k.0 k.1).1 ∙ sym it

      within : (t : ℕ) → t ∈ needs S (find S.deltas s) → Logged S t
      within t j = log_closed S ascends k.0 k.1 t (subst (λ (y : Message). t ∈ needs S y) it j)

  pub blocks_agree : (a : Message) → a ∈ log_of S → effective_block R a ≡ effective_block S a
  blocks_agree a k = block_agrees capacity (sequence_of a) (a, k, refl)

  pub keys_agree : (a : Message) → a ∈ log_of S → key_of R a ≡ key_of S a
  keys_agree a k = ap (λ (e : ℕ). key_with e (stated_priority a) a) (blocks_agree a k)
