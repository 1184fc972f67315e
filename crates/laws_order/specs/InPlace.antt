-- A complete listing is the first exactly if no item stands behind a greater key at or after the place where it became ready.
use Rattle.std.specs.Prelude.{◌≡◌, refl, ◌⊎◌, Bool, not, List, [], ◌∷◌, ℕ, zero, suc, ◌<◌, length, take, get_or, T}
use Rattle.std.proofs.Common.{sym, ap, subst, ⊎_elim, zero-le, suc-le-suc, arith, le_of_suc-le-suc, T_not}
use mathlib.Core.List.Memᴰ
use Rattle.model.specs.Lists.{◌∈◌, has}
use Rattle.model.specs.Listing.{after, ready, Listing, first_of}
use Rattle.laws_order.specs.ListLaws.{get_d_∈, ∈_get_d}
use Rattle.laws_order.specs.TestLaws.{decide, ∈→has, has_all→∈}
use Rattle.laws_order.specs.KeyOrder.{Total}
use Rattle.laws_order.specs.ListingLaws.{Stuck, stuck_placed, Next, not_after, not_self, ready_fresh, ready_needs, after_keeps, after_from}
use Rattle.laws_order.specs.Greedy.{Greedy, grow_greedy, greedy_listing, greedy_received, greedy_first}
use Rattle.laws_order.specs.ListingPlaces.{listing_at}

module _ {A : Type 0} (name : A → ℕ) (needs : A → List ℕ) (d : A) {K : Type 0} (key : A → K) (less : K → K → Bool) where
  -- An item that was ready at a place below its own has a greater key than the item there: of a listing that goes on after the names
  -- `done`, and of a whole one.
  abbrev InPlaceAfter : List ℕ → List A → Type 0
  InPlaceAfter done l = (i k : ℕ) → i < k → k < length l → T (ready name needs (after name done (take i l)) (get_or l k d)) → T (less (key (get_or l i d)) (key (get_or l k d)))

  abbrev pub InPlace : List A → Type 0
  InPlace l = InPlaceAfter [] l

  module _ (tot : Total less) (S : List A) (keys : (a b : A) → a ∈ S → b ∈ S → key a ≡ key b → a ≡ b) where
    greedy_in_place : (l : List A) (done : List ℕ) → Greedy name needs key less tot S done l → InPlaceAfter done l
    greedy_in_place [] done g i k p q t = let z : ⊥ = omega arith in absurd z
    greedy_in_place (a ∷ l) done g i zero p q t = let z : ⊥ = omega arith in absurd z
    greedy_in_place (a ∷ l) done g zero (suc k) p q t = ⊎_elim (λ u. u) (λ u. absurd (other (keys a b g.0.of of (tot.tri (key a) (key b) u (g.0.is_least b of t))))) (decide (less (key a) (key b)))
      where
        b : A
        b = get_or l k d

        of : b ∈ S
        of = greedy_received name needs key less tot S l (name a ∷ done) g.1 b (get_d_∈ l k d (le_of_suc-le-suc q))

        -- an item of the rest is not a
        other : a ≡ b → ⊥
        other e = T_not (has (name b) (after name (name a ∷ done) (take k l)))
            (ready_fresh name needs (after name (name a ∷ done) (take k l)) b ((listing_at name needs d l (name a ∷ done)).0 (greedy_listing name needs key less tot S l (name a ∷ done) g.1) k (le_of_suc-le-suc q)))
            (∈→has (after_keeps name (take k l) (name a ∷ done) (Memᴰ.head (sym (ap name e)))))
    greedy_in_place (a ∷ l) done g (suc i) (suc k) p q t = greedy_in_place l (name a ∷ done) g.1 i k (le_of_suc-le-suc p) (le_of_suc-le-suc q) t

    pub first_in_place : InPlace (first_of name needs key less S)
    first_in_place = greedy_in_place (first_of name needs key less S) [] (grow_greedy name needs key less tot S (length S) [])

    module _ (names : (a b : A) → a ∈ S → b ∈ S → name a ≡ name b → a ≡ b) where
      -- its first is the next one
      next_in_place : (a : A) (l : List A) (done : List ℕ) → Listing name needs done (a ∷ l) → ((b : A) → b ∈ a ∷ l → b ∈ S) → InPlaceAfter done (a ∷ l)
          → Stuck name needs S (after name done (a ∷ l)) → Next name needs key less tot S done a
      next_in_place a l done h all ip st = record { of = all a (Memᴰ.head refl); is_ready = h.0; is_least = λ b m t. least b m t (after_from name (a ∷ l) done (there b m t)) }
        where
          there : (b : A) → b ∈ S → T (ready name needs done b) → name b ∈ after name done (a ∷ l)
          there b m t = stuck_placed name needs S (after name done (a ∷ l)) st b m
              (λ s j. after_keeps name (a ∷ l) done (has_all→∈ (needs b) done (ready_needs name needs done b t) s j))

          behind : (b : A) → b ∈ l → T (ready name needs done b) → T (not (less (key b) (key a)))
          behind b m t =
              let p = ∈_get_d d m in
              not_after less tot (key a) (key b) (rw p.2 at (ip 0 (suc p.0) (suc-le-suc zero-le) (suc-le-suc p.1) (subst (λ (y : A). T (ready name needs done y)) (sym p.2) t)))

          least : (b : A) → b ∈ S → T (ready name needs done b) → (name b ∈ done) ⊎ ((c : A) × (c ∈ a ∷ l) × (name c ≡ name b)) → T (not (less (key b) (key a)))
          least b m t = ⊎_elim (λ q. absurd (T_not (has (name b) done) (ready_fresh name needs done b t) (∈→has q)))
              (λ c. ⊎_elim (λ e. subst (λ (y : A). T (not (less (key y) (key a)))) (sym e) (not_self less tot (key a))) (λ j. behind b j t)
              (Memᴰ.cases_cons (Memᴰ.cast (names b c.0 m (all c.0 c.1) (sym c.2)) c.1)))

      in-place-greedy : (l : List A) (done : List ℕ) → Listing name needs done l → ((b : A) → b ∈ l → b ∈ S) → InPlaceAfter done l → Stuck name needs S (after name done l) → Greedy name needs key less tot S done l
      in-place-greedy [] done h all ip st = tt
      in-place-greedy (a ∷ l) done h all ip st = (
        next_in_place a l done h all ip st,
        in-place-greedy l (name a ∷ done) h.1 (λ b m. all b (Memᴰ.tail m)) (λ i k p q. ip (suc i) (suc k) (suc-le-suc p) (suc-le-suc q)) st,
      )

      pub in_place_first : (l : List A) → Listing name needs [] l → ((b : A) → b ∈ l → b ∈ S) → Stuck name needs S (after name [] l) → InPlace l → l ≡ first_of name needs key less S
      in_place_first l h all st ip = sym (greedy_first name needs key less tot S keys l (in-place-greedy l [] h all ip st) st)
