-- Reach: of a received item, all that it reaches is received and holds no ring exactly if it is executable.
use Rattle.std.specs.Prelude.{◌≡◌, refl, ◌↔◌, List, [], ◌∷◌, ◌++◌, ℕ, zero, suc, ◌≤◌, ◌<◌, length, T, eqb}
use Rattle.std.proofs.Common.{sym, subst, ⊎_elim, arith, le_refl, T_not}
use mathlib.Core.List.Memᴰ
use Rattle.std.proofs.Math.Dec.{not_T}
use Rattle.model.specs.Lists.{◌∈◌, has, keep}
use Rattle.model.specs.Listing as L
use Rattle.laws_order.specs.TestLaws.{or_r, has→∈, ∈→has, has_all→∈, keep_loses}
use Rattle.laws_order.specs.ListingLaws.{Stuck, fresh, any_chooses, grow_complete, stuck_placed, ready_fresh, ready_needs, after_has, after_from, complete_stuck}

-- among more items it reaches as much
pub reach_more : {A : Type 0} (name : A → ℕ) (needs : A → List ℕ) (S R : List A) → ((b : A) → b ∈ S → b ∈ R)
    → {a : A} {s : ℕ} → L.Reaches name needs S a s → L.Reaches name needs R a s
reach_more name needs S R all (L.needed m) = L.needed m
reach_more name needs S R all (L.through {b = b} k m r) = L.through (all b k) m (reach_more name needs S R all r)

module _ {A : Type 0} (name : A → ℕ) (needs : A → List ℕ) (S : List A) where
  abbrev Reaches : A → ℕ → Type 0
  Reaches a s = L.Reaches name needs S a s

  abbrev Grounded : A → Type 0
  Grounded a = L.Grounded name needs S a

  -- what an item on the way reaches is reached
  pub reach_on : {a b : A} {s t : ℕ} → Reaches a s → b ∈ S → name b ≡ s → Reaches b t → Reaches a t
  reach_on (L.needed m) k e r = L.through k (Memᴰ.cast e m) r
  reach_on (L.through j m q) k e r = L.through j m (reach_on q k e r)

  -- what a grounded item needs is grounded
  grounded_need : {a b : A} → Grounded a → b ∈ S → name b ∈ needs a → Grounded b
  grounded_need g k m = record {
    received = λ s r. g.received s (L.through k m r);
    no_ring = λ r. g.no_ring_behind _ k (L.needed m) r;
    no_ring_behind = λ c j r. g.no_ring_behind c j (L.through k m r);
  }

  -- Names that hold all that their items need hold all that these reach.
  abbrev Closed : List ℕ → Type 0
  Closed done = (a : A) → a ∈ S → name a ∈ done → (s : ℕ) → s ∈ needs a → s ∈ done

  closed_reach : {a : A} {s : ℕ} (done : List ℕ) → Closed done → ((t : ℕ) → t ∈ needs a → t ∈ done) → Reaches a s → s ∈ done
  closed_reach done c f (L.needed {s = s} m) = f s m
  closed_reach done c f (L.through {b = b} k m r) = closed_reach done c (c b k (f (name b) m)) r

  module _ (names : (a b : A) → a ∈ S → b ∈ S → name a ≡ name b → a ≡ b) where
    -- ---- a listing holds no ring
    closed_next : (done : List ℕ) (a : A) → a ∈ S → Closed done → T (L.ready name needs done a) → Closed (name a ∷ done)
    closed_next done a k c t b j m s q = Memᴰ.tail (⊎_elim
        (λ e. has_all→∈ (needs a) done (ready_needs name needs done a t) s (subst (λ (y : A). s ∈ needs y) (names b a j k e) q))
        (λ i. c b j i s q) (Memᴰ.cases_cons m))

    closed_after : (l : List A) (done : List ℕ) → Closed done → L.Listing name needs done l → ((b : A) → b ∈ l → b ∈ S) → Closed (L.after name done l)
    closed_after [] done c h all = c
    closed_after (a ∷ l) done c h all =
        closed_after l (name a ∷ done) (closed_next done a (all a (Memᴰ.head refl)) c h.0) h.1 (λ b m. all b (Memᴰ.tail m))

    listing_no_ring : (l : List A) (done : List ℕ) → Closed done → L.Listing name needs done l → ((b : A) → b ∈ l → b ∈ S) → (a : A) → a ∈ l → Reaches a (name a) → ⊥
    listing_no_ring [] done c h all a m r = Memᴰ.not-nil m
    listing_no_ring (x ∷ l) done c h all a m r =
        ⊎_elim (λ e. here (subst (λ (y : A). Reaches y (name y)) e r))
        (λ k. listing_no_ring l (name x ∷ done) (closed_next done x (all x (Memᴰ.head refl)) c h.0) h.1 (λ b j. all b (Memᴰ.tail j)) a k r)
        (Memᴰ.cases_cons m)
      where
        here : Reaches x (name x) → ⊥
        here q = T_not (has (name x) done) (ready_fresh name needs done x h.0)
            (∈→has (closed_reach done c (has_all→∈ (needs x) done (ready_needs name needs done x h.0)) q))

    executable_grounded : (a : A) → L.Executable name needs S a → Grounded a
    executable_grounded a e = record {
      received = λ s r. let c = listed s r in (c.0, e.received c.0 c.1, c.2);
      no_ring = no_ring_in a last;
      no_ring_behind = λ b k r. let c = listed (name b) r in no_ring_in b (Memᴰ.cast (names b c.0 k (e.received c.0 c.1) (sym c.2)) c.1);
    }
      where
        last : a ∈ (e.before ++ a ∷ [])
        last = Memᴰ.append_right e.before (Memᴰ.head refl)

        none_yet : Closed []
        none_yet b k m = absurd (Memᴰ.not-nil m)

        no_ring_in : (b : A) → b ∈ (e.before ++ a ∷ []) → Reaches b (name b) → ⊥
        no_ring_in = listing_no_ring (e.before ++ a ∷ []) [] none_yet e.listing e.received

        closed : Closed (L.after name [] (e.before ++ a ∷ []))
        closed = closed_after (e.before ++ a ∷ []) [] none_yet e.listing e.received

        listed : (s : ℕ) → Reaches a s → (b : A) × (b ∈ (e.before ++ a ∷ [])) × (name b ≡ s)
        listed s r = ⊎_elim (λ m. absurd (Memᴰ.not-nil m)) (λ c. c) (after_from name (e.before ++ a ∷ []) []
            (closed_reach (L.after name [] (e.before ++ a ∷ [])) closed
            (closed a (e.received a last) (after_has name (e.before ++ a ∷ []) [] last)) r))

    -- ---- a way back through needs that meets no ring ends
    -- each received item of the way reaches a
    abbrev Leads : List ℕ → A → Type 0
    Leads way a = (c : A) → c ∈ S → name c ∈ way → Reaches c (name a)

    leads_on : (way : List ℕ) (a b : A) → a ∈ S → name b ∈ needs a → Leads way a → Leads (name a ∷ way) b
    leads_on way a b k m w c j q =
        ⊎_elim (λ e. L.needed (subst (λ (y : A). name b ∈ needs y) (names a c k j (sym e)) m)) (λ i. reach_on (w c j i) k refl (L.needed m)) (Memᴰ.cases_cons q)

    shorter : (way : List ℕ) (a : A) → a ∈ S → Grounded a → Leads way a → length (keep (fresh name (name a ∷ way)) S) < length (keep (fresh name way) S)
    shorter way a k g w = keep_loses (fresh name way) (fresh name (name a ∷ way))
        (λ b t. not_T (has (name b) way) (λ h. T_not (has (name b) (name a ∷ way)) t (or_r (eqb (name b) (name a)) (has (name b) way) h)))
        k (not_T (has (name a) way) (λ h. g.no_ring (w a k (has→∈ (name a) way h))))
        (λ t. T_not (has (name a) (name a ∷ way)) t (∈→has {s = name a} {l = name a ∷ way} (Memᴰ.head refl)))

    -- by the number of items that are not on the way
    grounded_placed : (done : List ℕ) → Stuck name needs S done → (n : ℕ) (way : List ℕ) (a : A) → a ∈ S → Grounded a → Leads way a
        → length (keep (fresh name way) S) ≤ n → name a ∈ done
    grounded_placed done st zero way a k g w h = let z : ⊥ = omega (arith, shorter way a k g w) in absurd z
    grounded_placed done st (suc n) way a k g w h = stuck_placed name needs S done st a k (λ s m. need s m (g.received s (L.needed m))
        (λ b j x y. grounded_placed done st n (name a ∷ way) b j x y (omega (arith, shorter way a k g w))))
      where
        need : (s : ℕ) → s ∈ needs a → (b : A) × (b ∈ S) × (name b ≡ s) → ((b : A) → b ∈ S → Grounded b → Leads (name a ∷ way) b → name b ∈ done) → s ∈ done
        need s m r ih =
            let q : name r.0 ∈ needs a = Memᴰ.cast r.2 m in
            Memᴰ.cast (sym r.2) (ih r.0 r.1 (grounded_need g r.1 q) (leads_on way a r.0 k q w))

    grounded_executable : (a : A) → a ∈ S → Grounded a → L.Executable name needs S a
    grounded_executable a k g = ⊎_elim (λ m. absurd (Memᴰ.not-nil m))
        (λ c. (full.sound a (Memᴰ.cast (names a c.0 k (full.sound c.0 c.1).0 (sym c.2)) c.1)).1)
        (after_from name (L.closure_of name needs S) [] (grounded_placed (L.after name [] (L.closure_of name needs S))
        (complete_stuck name needs S (L.closure_of name needs S) full) (length (keep (fresh name []) S)) [] a k g (λ c j m. absurd (Memᴰ.not-nil m)) (le_refl _)))
      where
        full : L.Complete name needs S (L.closure_of name needs S)
        full = grow_complete name needs L.any_of any_chooses S names

    pub grounded↔executable : (a : A) → a ∈ S → Grounded a ↔ L.Executable name needs S a
    grounded↔executable a k = (grounded_executable a k, executable_grounded a)
