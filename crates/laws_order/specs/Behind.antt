-- What is left of the first listing when its first items are gone: the first listing of the other items, which no longer need the gone ones.
use Rattle.std.specs.Prelude.{◌≡◌, refl, ◌⊎◌, Bool, not, List, [], ◌∷◌, ◌++◌, ℕ, length, T}
use Rattle.std.proofs.Common.{sym, ◌∙◌, ap, subst, inl, inr, ⊎_elim, T_not}
use mathlib.Core.List.Memᴰ
use Rattle.std.proofs.Math.Dec.{not_T}
use Rattle.model.specs.Lists.{◌∈◌, has, has_all}
use Rattle.model.specs.Listing.{after, ready, Listing, Complete, first_of}
use Rattle.laws_order.specs.TestLaws.{and_i, has→∈, ∈→has, has_all→∈, ∈→has_all}
use Rattle.laws_order.specs.KeyOrder.{Total}
use Rattle.laws_order.specs.ListingLaws.{Stuck, stuck_placed, complete_stuck, Next, first_complete, ready_fresh, ready_needs, after_has, after_from, after_keeps}
use Rattle.laws_order.specs.Greedy.{Greedy, grow_greedy, greedy_first}

-- items placed one list after the other
pub after_append : {A : Type 0} (name : A → ℕ) (p q : List A) (done : List ℕ) → after name done (p ++ q) ≡ after name (after name done p) q
after_append name [] q done = refl
after_append name (a ∷ p) q done = after_append name p q (name a ∷ done)

-- ---- a listing in two parts
pub listing_front : {A : Type 0} (name : A → ℕ) (needs : A → List ℕ) (p q : List A) (done : List ℕ)
    → Listing name needs done (p ++ q) → Listing name needs done p
listing_front name needs [] q done h = tt
listing_front name needs (a ∷ p) q done h = (h.0, listing_front name needs p q (name a ∷ done) h.1)

-- no name stands in both parts
listed_fresh : {A : Type 0} (name : A → ℕ) (needs : A → List ℕ) (l : List A) (done : List ℕ)
    → Listing name needs done l → (b : A) → b ∈ l → name b ∈ done → ⊥
listed_fresh name needs [] done h b k j = Memᴰ.not-nil k
listed_fresh name needs (a ∷ l) done h b k j =
    let rest : b ∈ l → ⊥ = λ i. listed_fresh name needs l (name a ∷ done) h.1 b i (Memᴰ.tail j) in
    ⊎_elim (λ e. T_not (has (name a) done) (ready_fresh name needs done a h.0) (∈→has (Memᴰ.cast (ap name (sym e)) j))) rest (Memᴰ.cases_cons k)

pub parts_apart : {A : Type 0} (name : A → ℕ) (needs : A → List ℕ) (p q : List A) (done : List ℕ)
    → Listing name needs done (p ++ q) → (a b : A) → a ∈ p → b ∈ q → name a ≡ name b → ⊥
parts_apart name needs [] q done h a b i j e = Memᴰ.not-nil i
parts_apart name needs (x ∷ p) q done h a b i j e =
    let rest : a ∈ p → ⊥ = λ k. parts_apart name needs p q (name x ∷ done) h.1 a b k j e in
    let clash : a ≡ x → name b ∈ name x ∷ done = λ u. Memᴰ.head (sym e ∙ ap name u) in
    ⊎_elim (λ u. listed_fresh name needs (p ++ q) (name x ∷ done) h.1 b (Memᴰ.append_right p j) (clash u)) rest (Memᴰ.cases_cons i)

module _ {A : Type 0} (name : A → ℕ) {K : Type 0} (less : K → K → Bool) (tot : Total less) where
  greedy_behind : (needs : A → List ℕ) (key : A → K) (S p q : List A) (done : List ℕ)
      → Greedy name needs key less tot S done (p ++ q) → Greedy name needs key less tot S (after name done p) q
  greedy_behind needs key S [] q done g = g
  greedy_behind needs key S (a ∷ p) q done g = greedy_behind needs key S p q (name a ∷ done) g.1

  -- Items S and what is left of them, R, once the items p are gone, which stand before q in the first listing. What is left has its name
  -- and its needs, without the names that are gone; of q each has the same key as before.
  pub record Left (needs needs' : A → List ℕ) (key key' : A → K) (S R p q : List A) : Type 0 where
    pub names : (a b : A) → a ∈ S → b ∈ S → name a ≡ name b → a ≡ b
    pub keys : (a b : A) → a ∈ S → b ∈ S → key a ≡ key b → a ≡ b
    pub keys' : (a b : A) → a ∈ R → b ∈ R → key' a ≡ key' b → a ≡ b
    pub split : first_of name needs key less S ≡ p ++ q
    pub left : (a : A) → a ∈ R → (a ∈ S) × (name a ∈ after name [] p → ⊥)
    pub stays : (a : A) → a ∈ S → (name a ∈ after name [] p → ⊥) → a ∈ R
    pub fewer : (a : A) → a ∈ R → (s : ℕ) → s ∈ needs' a → (s ∈ needs a) × (s ∈ after name [] p → ⊥)
    pub others : (a : A) → a ∈ R → (s : ℕ) → s ∈ needs a → (s ∈ after name [] p) ⊎ (s ∈ needs' a)
    pub agree : (a : A) → a ∈ q → key' a ≡ key a

  module _ (needs needs' : A → List ℕ) (key key' : A → K) (S R p q : List A) (x : Left needs needs' key key' S R p q) where
    full : Complete name needs S (p ++ q)
    full = subst (Complete name needs S) x.split (first_complete name needs key less tot S x.names x.keys)

    -- Names placed, the gone items' among them, and those that are placed without these.
    record Behind (D d : List ℕ) : Type 0 where
      gone : (s : ℕ) → s ∈ after name [] p → s ∈ D
      more : (s : ℕ) → s ∈ d → s ∈ D
      only : (s : ℕ) → s ∈ D → (s ∈ after name [] p) ⊎ (s ∈ d)
      within : (s : ℕ) → s ∈ D → s ∈ after name [] (p ++ q)

    -- ready without the gone ones is ready with them
    ready_too : (D d : List ℕ) → Behind D d → (b : A) → b ∈ R → T (ready name needs' d b) → T (ready name needs D b)
    ready_too D d h b k t = and_i (not (has (name b) D)) (has_all (needs b) D)
        (not_T (has (name b) D) (λ u. ⊎_elim (x.left b k).1 (λ j. T_not (has (name b) d) (ready_fresh name needs' d b t) (∈→has j))
        (h.only (name b) (has→∈ (name b) D u))))
        (∈→has_all (needs b) D (λ s j. ⊎_elim (h.gone s) (λ i. h.more s (has_all→∈ (needs' b) d (ready_needs name needs' d b t) s i)) (x.others b k s j)))

    -- what is ready is of the listing, and so behind the gone ones
    ready_behind : (D d : List ℕ) → Behind D d → (b : A) → b ∈ R → T (ready name needs D b) → b ∈ q
    ready_behind D d h b k t = ⊎_elim (λ z. absurd (Memᴰ.not-nil z)) from (after_from name (p ++ q) [] there)
      where
        there : name b ∈ after name [] (p ++ q)
        there = stuck_placed name needs S (after name [] (p ++ q)) (complete_stuck name needs S (p ++ q) full) b (x.left b k).0
            (λ s j. h.within s (has_all→∈ (needs b) D (ready_needs name needs D b t) s j))

        from : (a : A) × (a ∈ p ++ q) × (name a ≡ name b) → b ∈ q
        from r =
            let same : b ≡ r.0 = x.names b r.0 (x.left b k).0 (full.sound r.0 r.1).0 (sym r.2) in
            ⊎_elim (λ j. absurd ((x.left b k).1 (after_has name p [] (Memᴰ.cast same j)))) (λ j. Memᴰ.cast same j) (Memᴰ.append_cases p r.1)

    -- the next one with them is the next one without
    next_left : (D d : List ℕ) → Behind D d → (a : A) → a ∈ q → Next name needs key less tot S D a → Next name needs' key' less tot R d a
    next_left D d h a k n = record { of = of; is_ready = is_ready; is_least = least }
      where
        of : a ∈ R
        of = x.stays a n.of (λ j. T_not (has (name a) D) (ready_fresh name needs D a n.is_ready) (∈→has (h.gone (name a) j)))

        needed : (s : ℕ) → s ∈ needs' a → s ∈ d
        needed s j =
            let r = x.fewer a of s j in
            ⊎_elim (λ i. absurd (r.1 i)) (λ i. i) (h.only s (has_all→∈ (needs a) D (ready_needs name needs D a n.is_ready) s r.0))

        is_ready : T (ready name needs' d a)
        is_ready = and_i (not (has (name a) d)) (has_all (needs' a) d)
            (not_T (has (name a) d) (λ t. T_not (has (name a) D) (ready_fresh name needs D a n.is_ready) (∈→has (h.more (name a) (has→∈ (name a) d t)))))
            (∈→has_all (needs' a) d needed)

        least : (b : A) → b ∈ R → T (ready name needs' d b) → T (not (less (key' b) (key' a)))
        least b j t =
            let u : T (ready name needs D b) = ready_too D d h b j t in
            rw (x.agree a k, x.agree b (ready_behind D d h b j u)) (n.is_least b (x.left b j).0 u)

    behind_next : (D d : List ℕ) → Behind D d → (a : A) → a ∈ q → Behind (name a ∷ D) (name a ∷ d)
    behind_next D d h a k = record {
      gone = λ s j. Memᴰ.tail (h.gone s j);
      more = λ s j. ⊎_elim (λ e. Memᴰ.head e) (λ i. Memᴰ.tail (h.more s i)) (Memᴰ.cases_cons j);
      only = λ s j. ⊎_elim (λ e. inr (Memᴰ.head e)) (λ i. ⊎_elim inl (λ u. inr (Memᴰ.tail u)) (h.only s i)) (Memᴰ.cases_cons j);
      within = λ s j. ⊎_elim (λ e. Memᴰ.cast e (after_has name (p ++ q) [] (Memᴰ.append_right p k))) (λ i. h.within s i) (Memᴰ.cases_cons j);
    }

    goes_on : (l : List A) (D d : List ℕ) → Behind D d → ((b : A) → b ∈ l → b ∈ q) → Greedy name needs key less tot S D l
        → Greedy name needs' key' less tot R d l × Behind (after name D l) (after name d l)
    goes_on [] D d h all g = (tt, h)
    goes_on (a ∷ l) D d h all g =
        let k : a ∈ q = all a (Memᴰ.head refl) in
        let r = goes_on l (name a ∷ D) (name a ∷ d) (behind_next D d h a k) (λ b j. all b (Memᴰ.tail j)) g.1 in
        ((next_left D d h a k g.0, r.0), r.1)

    start : Behind (after name [] p) []
    start = record {
      gone = λ s j. j;
      more = λ s j. absurd (Memᴰ.not-nil j);
      only = λ s j. inl j;
      within = λ s j. subst (λ (l : List ℕ). s ∈ l) (sym (after_append name p q [])) (after_keeps name q (after name [] p) j);
    }

    run : Greedy name needs' key' less tot R [] q × Behind (after name (after name [] p) q) (after name [] q)
    run = goes_on q (after name [] p) [] start (λ b j. j)
        (greedy_behind needs key S p q [] (subst (Greedy name needs key less tot S []) x.split (grow_greedy name needs key less tot S (length S) [])))

    stuck : Stuck name needs' R (after name [] q)
    stuck a k t = complete_stuck name needs S (p ++ q) full a (x.left a k).0
        (subst (λ (D : List ℕ). T (ready name needs D a)) (sym (after_append name p q []))
        (ready_too (after name (after name [] p) q) (after name [] q) run.1 a k t))

    -- The first listing of what is left is what stood behind the gone items.
    pub behind_first : first_of name needs' key' less R ≡ q
    behind_first = greedy_first name needs' key' less tot R x.keys' q run.0 stuck
