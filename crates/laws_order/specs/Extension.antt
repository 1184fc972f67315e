-- One more item, which needs every listed item that no listed one needs: the list goes on with it.
use Rattle.std.specs.Prelude.{◌≡◌, refl, ◌⊎◌, Bool, not, List, [], ◌∷◌, ◌++◌, ℕ, ◌-◌, length, T}
use Rattle.std.proofs.Common.{sym, ◌∙◌, ap, subst, inl, inr, ⊎_elim, append_assoc, T_not}
use mathlib.Core.List.Memᴰ
use Rattle.std.proofs.Math.Dec.{not_T}
use Rattle.model.specs.Lists.{◌∈◌, has, has_all}
use Rattle.model.specs.Listing.{after, ready, Listing, Complete, lowest_of, grow, first_of}
use Rattle.laws_order.specs.TestLaws.{has→∈, ∈→has, has_all→∈, ∈→has_all, and_i}
use Rattle.laws_order.specs.KeyOrder.{Total}
use Rattle.laws_order.specs.ListingLaws.{stuck_placed, Next, first_complete, ready_fresh, ready_needs, complete_stuck, after_has, after_from, not_self}
use Rattle.laws_order.specs.Greedy.{Greedy, grow_greedy, greedy_snoc, greedy_begins}

module _ {A : Type 0} (name : A → ℕ) (needs : A → List ℕ) where
  -- each of l is needed by m, or by one that stands before, or by one of l
  covered : (m : A) (done : List ℕ) → ((s : ℕ) → s ∈ needs m → s ∈ done)
      → (l past : List A) (d : List ℕ) → Listing name needs d l → ((b : A) → b ∈ past → (s : ℕ) → s ∈ needs b → s ∈ d)
      → ((b : A) → b ∈ l → name b ∈ done → (s : ℕ) → s ∈ needs b → s ∈ done)
      → ((a : A) → a ∈ l → (name a ∈ needs m) ⊎ ((b : A) × ((b ∈ past) ⊎ (b ∈ l)) × (name a ∈ needs b)))
      → (a : A) → a ∈ l → name a ∈ done
  covered m done nm [] past d h old closed cov a k = absurd (Memᴰ.not-nil k)
  covered m done nm (x ∷ l) past d h old closed cov a k =
      let ih : (b : A) → b ∈ l → name b ∈ done =
      λ b j. covered m done nm l (x ∷ past) (name x ∷ d) h.1 older (λ c i. closed c (Memᴰ.tail i)) (λ c i. shift c (cov c (Memᴰ.tail i))) b j in
      ⊎_elim (λ e. Memᴰ.cast (ap name e) (first ih (cov x (Memᴰ.head refl)))) (λ j. ih a j) (Memᴰ.cases_cons k)
    where
      mine : (s : ℕ) → s ∈ needs x → s ∈ d
      mine = has_all→∈ (needs x) d (ready_needs name needs d x h.0)

      older : (b : A) → b ∈ x ∷ past → (s : ℕ) → s ∈ needs b → s ∈ name x ∷ d
      older b j s i = Memᴰ.tail (⊎_elim (λ e. mine s (subst (λ (y : A). s ∈ needs y) e i)) (λ q. old b q s i) (Memᴰ.cases_cons j))

      shift : (a : A) → (name a ∈ needs m) ⊎ ((b : A) × ((b ∈ past) ⊎ (b ∈ x ∷ l)) × (name a ∈ needs b))
          → (name a ∈ needs m) ⊎ ((b : A) × ((b ∈ x ∷ past) ⊎ (b ∈ l)) × (name a ∈ needs b))
      shift a (inl q) = inl q
      shift a (inr r) = inr (r.0, ⊎_elim (λ q. inl (Memᴰ.tail q)) (λ q. ⊎_elim (λ e. inl (Memᴰ.head e)) inr (Memᴰ.cases_cons q)) r.1, r.2)

      no_x : name x ∈ d → ⊥
      no_x q = T_not (has (name x) d) (ready_fresh name needs d x h.0) (∈→has q)

      first : ((b : A) → b ∈ l → name b ∈ done) → (name x ∈ needs m) ⊎ ((b : A) × ((b ∈ past) ⊎ (b ∈ x ∷ l)) × (name x ∈ needs b)) → name x ∈ done
      first ih (inl q) = nm (name x) q
      first ih (inr r) = ⊎_elim (λ q. absurd (no_x (old r.0 q (name x) r.2)))
          (λ q. ⊎_elim (λ e. absurd (no_x (mine (name x) (subst (λ (y : A). name x ∈ needs y) e r.2)))) (λ j. closed r.0 q (ih r.0 j) (name x) r.2) (Memᴰ.cases_cons q)) r.1

  module _ {K : Type 0} (less : K → K → Bool) (tot : Total less) (key key' : A → K) (S R : List A) (m : A)
      (names : (a b : A) → a ∈ S → b ∈ S → name a ≡ name b → a ≡ b)
      (keys : (a b : A) → a ∈ S → b ∈ S → key a ≡ key b → a ≡ b)
      (keys' : (a b : A) → a ∈ R → b ∈ R → key' a ≡ key' b → a ≡ b)
      (new : m ∈ R) (stay : (a : A) → a ∈ S → a ∈ R) (only : (a : A) → a ∈ R → (a ≡ m) ⊎ (a ∈ S)) where
    abbrev L : List A
    L = first_of name needs key less S

    full : Complete name needs S L
    full = first_complete name needs key less tot S names keys

    -- what is ready while the log is placed is of the log
    ready_in : (d : List ℕ) → ((s : ℕ) → s ∈ d → s ∈ after name [] L) → (b : A) → b ∈ S → T (ready name needs d b) → b ∈ L
    ready_in d sub b k t = ⊎_elim (λ q. absurd (Memᴰ.not-nil q)) (λ r. Memᴰ.cast (names b r.0 k (full.sound r.0 r.1).0 (sym r.2)) r.1) (after_from name L [] there)
      where
        there : name b ∈ after name [] L
        there = stuck_placed name needs S (after name [] L) (complete_stuck name needs S L full) b k (λ s j. sub s (has_all→∈ (needs b) d (ready_needs name needs d b t) s j))

    module _ (agree : (a : A) → a ∈ L → key' a ≡ key a)
        (needed : (s : ℕ) → s ∈ needs m → s ∈ after name [] L)
        (unnamed : (a : A) → a ∈ L → name a ≡ name m → ⊥)
        (covers : (a : A) → a ∈ L → (name a ∈ needs m) ⊎ ((b : A) × (b ∈ L) × (name a ∈ needs b))) where
      -- the state while the log is placed
      record Placing (d : List ℕ) : Type 0 where
        within : (s : ℕ) → s ∈ d → s ∈ after name [] L
        closed : (b : A) → b ∈ L → name b ∈ d → (s : ℕ) → s ∈ needs b → s ∈ d

      next_too : (d : List ℕ) (a : A) → Placing d → a ∈ L → Next name needs key less tot S d a → Next name needs key' less tot R d a
      next_too d a pl k x = record { of = stay a x.of; is_ready = x.is_ready; is_least = λ b j t. least_too b t (only b j) }
        where
          all_there : T (ready name needs d m) → name a ∈ d
          all_there t = covered m d (has_all→∈ (needs m) d (ready_needs name needs d m t)) L [] [] full.listing (λ b q. absurd (Memᴰ.not-nil q)) pl.closed
              (λ c j. ⊎_elim inl (λ r. inr (r.0, inr r.1, r.2)) (covers c j)) a k

          least_too : (b : A) → T (ready name needs d b) → (b ≡ m) ⊎ (b ∈ S) → T (not (less (key' b) (key' a)))
          least_too b t (inl e) = absurd (T_not (has (name a) d) (ready_fresh name needs d a x.is_ready) (∈→has (all_there (subst (λ (y : A). T (ready name needs d y)) e t))))
          least_too b t (inr j) = rw (agree a k, agree b (ready_in d pl.within b j t)) (x.is_least b j t)

      placing_next : (d : List ℕ) (a : A) → Placing d → a ∈ L → T (ready name needs d a) → Placing (name a ∷ d)
      placing_next d a pl k t = record {
        within = λ s j. ⊎_elim (λ e. Memᴰ.cast e (after_has name L [] k)) (λ i. pl.within s i) (Memᴰ.cases_cons j);
        closed = λ b j i s q. Memᴰ.tail (⊎_elim
            (λ e. has_all→∈ (needs a) d (ready_needs name needs d a t) s (subst (λ (y : A). s ∈ needs y) (names b a (full.sound b j).0 (full.sound a k).0 e) q))
            (λ i'. pl.closed b j i' s q) (Memᴰ.cases_cons i));
      }

      greedy_too : (l : List A) (d : List ℕ) → Placing d → ((b : A) → b ∈ l → b ∈ L) → Greedy name needs key less tot S d l → Greedy name needs key' less tot R d l
      greedy_too [] d pl all g = tt
      greedy_too (a ∷ l) d pl all g =
          let k : a ∈ L = all a (Memᴰ.head refl) in
          (next_too d a pl k g.0, greedy_too l (name a ∷ d) (placing_next d a pl k g.0.is_ready) (λ b j. all b (Memᴰ.tail j)) g.1)

      m_ready : T (ready name needs (after name [] L) m)
      m_ready = and_i (not (has (name m) (after name [] L))) (has_all (needs m) (after name [] L))
          (not_T (has (name m) (after name [] L)) (λ t. none_so (after_from name L [] (has→∈ (name m) (after name [] L) t))))
          (∈→has_all (needs m) (after name [] L) needed)
        where
          none_so : (name m ∈ []) ⊎ ((a : A) × (a ∈ L) × (name a ≡ name m)) → ⊥
          none_so (inl q) = Memᴰ.not-nil q
          none_so (inr r) = unnamed r.0 r.1 r.2

      last_one : Next name needs key' less tot R (after name [] L) m
      last_one = record {
        of = new;
        is_ready = m_ready;
        is_least = λ b j t. ⊎_elim (λ e. subst (λ (y : A). T (not (less (key' y) (key' m)))) (sym e) (not_self less tot (key' m))) (λ i. absurd (complete_stuck name needs S L full b i t)) (only b j);
      }

      -- The list goes on with m: nothing is taken back, and m comes first.
      pub extends : (rest : List A) × (first_of name needs key' less R ≡ L ++ m ∷ rest)
      extends =
          let rest : List A = grow name needs (lowest_of key' less) R (length R - length (L ++ m ∷ [])) (after name [] (L ++ m ∷ [])) in
          (rest, greedy_begins name needs key' less tot R keys' (L ++ m ∷ []) (greedy_snoc name needs key' less tot R L [] m along last_one) ∙ append_assoc L (m ∷ []) rest)
        where
          start : Placing []
          start = record { within = λ s j. absurd (Memᴰ.not-nil j); closed = λ b j i. absurd (Memᴰ.not-nil i) }

          along : Greedy name needs key' less tot R [] L
          along = greedy_too L [] start (λ b j. j) (grow_greedy name needs key less tot S (length S) [])
