-- A number by which keys are compared first, and which no item has less of than what it needs, ascends along the first listing.
use Rattle.std.specs.Prelude.{◌≡◌, refl, ◌⊎◌, Bool, not, List, [], ◌∷◌, ◌++◌, ℕ, ◌≤◌, length, T}
use Rattle.std.proofs.Common.{sym, subst, inl, inr, ⊎_elim, arith, T_not}
use mathlib.Core.List.Memᴰ
use Rattle.std.proofs.Math.Dec.{not_T}
use Rattle.model.specs.Lists.{◌∈◌, has, has_all}
use Rattle.model.specs.Listing.{Listing, first_of}
use Rattle.laws_order.specs.TestLaws.{and_i, has→∈, ∈→has, has_all→∈, ∈→has_all}
use Rattle.laws_order.specs.KeyOrder.{Total}
use Rattle.laws_order.specs.ListingLaws.{Next, ready_fresh, ready_needs}
use Rattle.laws_order.specs.Greedy.{Greedy, grow_greedy, greedy_listing, greedy_received}

-- No item weighs more than one behind it.
abbrev pub Ascends : {A : Type 0} → (A → ℕ) → List A → Type 0
Ascends weight [] = Unit {0}
Ascends {A} weight (a ∷ l) = ((b : A) → b ∈ l → weight a ≤ weight b) × Ascends weight l

pub ascends_across : {A : Type 0} (weight : A → ℕ) (p q : List A) → Ascends weight (p ++ q) → (a b : A) → a ∈ p → b ∈ q → weight a ≤ weight b
ascends_across weight [] q h a b j k = absurd (Memᴰ.not-nil j)
ascends_across weight (x ∷ p) q h a b j k =
    let rest : a ∈ p → weight a ≤ weight b = λ i. ascends_across weight p q h.1 a b i k in
    ⊎_elim (λ e. subst (λ y. weight y ≤ weight b) (sym e) (h.0 b (Memᴰ.append_right p k))) rest (Memᴰ.cases_cons j)

module _ {A : Type 0} (name : A → ℕ) (needs : A → List ℕ) {K : Type 0} (key : A → K) (less : K → K → Bool) (tot : Total less) (S : List A) (weight : A → ℕ)
    (by_key : (a b : A) → T (not (less (key b) (key a))) → weight a ≤ weight b) where
  -- no less than what it needs
  abbrev Heavier : A → Type 0
  Heavier b = (x : A) → x ∈ S → name x ∈ needs b → weight x ≤ weight b

  -- what is placed is what was there when a was chosen, or weighs no less than a
  abbrev Since : A → List ℕ → ℕ → Type 0
  Since a done s = (s ∈ done) ⊎ ((x : A) × (x ∈ S) × (name x ≡ s) × (weight a ≤ weight x))

  -- an item's needs were all there when a was chosen, or it weighs no less
  scan : (a : A) (done d : List ℕ) → ((s : ℕ) → s ∈ d → Since a done s) → (b : A) → Heavier b
      → (ss : List ℕ) → ((s : ℕ) → s ∈ ss → (s ∈ needs b) × (s ∈ d)) → ((s : ℕ) → s ∈ ss → s ∈ done) ⊎ (weight a ≤ weight b)
  scan a done d since b heavier [] all = inl (λ s k. absurd (Memᴰ.not-nil k))
  scan a done d since b heavier (s ∷ ss) all =
      one (since s (all s (Memᴰ.head refl)).1) (scan a done d since b heavier ss (λ t k. all t (Memᴰ.tail k)))
    where
      one : Since a done s → ((t : ℕ) → t ∈ ss → t ∈ done) ⊎ (weight a ≤ weight b) → ((t : ℕ) → t ∈ s ∷ ss → t ∈ done) ⊎ (weight a ≤ weight b)
      one (inr r) rest = inr (omega (arith, r.3, heavier r.0 r.1 (Memᴰ.cast r.2 (all s (Memᴰ.head refl)).0)))
      one (inl j) (inr h) = inr h
      one (inl j) (inl f) = inl (λ t k. ⊎_elim (λ e. Memᴰ.cast e j) (f t) (Memᴰ.cases_cons k))

  -- what is placed later weighs no less
  later : (a : A) (done : List ℕ) → Next name needs key less tot S done a → (l : List A) (d : List ℕ)
      → ((s : ℕ) → s ∈ done → s ∈ d) → ((s : ℕ) → s ∈ d → Since a done s) → Listing name needs d l → ((b : A) → b ∈ l → b ∈ S)
      → ((b : A) → b ∈ l → Heavier b) → (b : A) → b ∈ l → weight a ≤ weight b
  later a done x [] d sub since h all heavier b k = absurd (Memᴰ.not-nil k)
  later a done x (c ∷ l) d sub since h all heavier b k =
      let rest : b ∈ l → weight a ≤ weight b =
      later a done x l (name c ∷ d) (λ s j. Memᴰ.tail (sub s j)) since_next h.1
      (λ y j. all y (Memᴰ.tail j)) (λ y j. heavier y (Memᴰ.tail j)) b in
      ⊎_elim (λ e. subst (λ y. weight a ≤ weight y) (sym e) first) rest (Memᴰ.cases_cons k)
    where
      mine : (s : ℕ) → s ∈ needs c → s ∈ d
      mine = has_all→∈ (needs c) d (ready_needs name needs d c h.0)

      new : T (not (has (name c) done))
      new = not_T (has (name c) done) (λ t. T_not (has (name c) d) (ready_fresh name needs d c h.0) (∈→has (sub (name c) (has→∈ (name c) done t))))

      first : weight a ≤ weight c
      first = ⊎_elim
          (λ f. by_key a c (x.is_least c (all c (Memᴰ.head refl))
          (and_i (not (has (name c) done)) (has_all (needs c) done) new (∈→has_all (needs c) done f))))
          (λ w. w) (scan a done d since c (heavier c (Memᴰ.head refl)) (needs c) (λ s j. (j, mine s j)))

      since_next : (s : ℕ) → s ∈ name c ∷ d → Since a done s
      since_next s j = ⊎_elim (λ e. inr (c, all c (Memᴰ.head refl), sym e, first)) (since s) (Memᴰ.cases_cons j)

  greedy_ascends : (l : List A) (done : List ℕ) → Greedy name needs key less tot S done l → ((b : A) → b ∈ l → Heavier b) → Ascends weight l
  greedy_ascends [] done g heavier = tt
  greedy_ascends (a ∷ l) done g heavier = (
    later a done g.0 l (name a ∷ done) (λ s j. Memᴰ.tail j)
        (λ s j. ⊎_elim (λ e. inr (a, g.0.of, sym e, omega arith)) inl (Memᴰ.cases_cons j))
        (greedy_listing name needs key less tot S l (name a ∷ done) g.1)
        (greedy_received name needs key less tot S l (name a ∷ done) g.1) (λ b j. heavier b (Memᴰ.tail j)),
    greedy_ascends l (name a ∷ done) g.1 (λ b j. heavier b (Memᴰ.tail j)),
  )

  -- It ascends along the first listing.
  pub first_ascends : ((b : A) → b ∈ first_of name needs key less S → Heavier b) → Ascends weight (first_of name needs key less S)
  first_ascends = greedy_ascends (first_of name needs key less S) [] (grow_greedy name needs key less tot S (length S) [])
