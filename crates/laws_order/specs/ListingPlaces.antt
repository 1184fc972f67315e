-- Listings by places: which names stand below a place, and what is ready there.
use Rattle.std.specs.Prelude.{◌≡◌, ◌↔◌, not, List, [], ◌∷◌, ℕ, zero, suc, ◌≤◌, ◌<◌, length, take, get_or, T}
use Rattle.std.proofs.Common.{sym, ◌∙◌, ap, ⊎_elim, zero-le, suc-le-suc, arith, le_of_suc-le-suc, length-take, get_or-take, T_not}
use mathlib.Core.List.Memᴰ
use Rattle.std.proofs.Math.Dec.{not_T}
use Rattle.model.specs.Lists.{◌∈◌, has, has_all}
use Rattle.model.specs.Listing.{after, ready, Listing}
use Rattle.laws_order.specs.ListLaws.{get_d_∈, ∈_get_d}
use Rattle.laws_order.specs.TestLaws.{and_i, has→∈, ∈→has, has_all→∈, ∈→has_all}
use Rattle.laws_order.specs.ListingLaws.{ready_fresh, ready_needs, after_has, after_from}

-- ---- listings; d is read past the end
-- no name stands at two places
abbrev pub Apart : {A : Type 0} → (A → ℕ) → A → List A → Type 0
Apart name d l = (i k : ℕ) → i < k → k < length l → name (get_or l i d) ≡ name (get_or l k d) → ⊥

module _ {A : Type 0} (name : A → ℕ) where
  -- the names at the places below i
  abbrev pub below : List A → ℕ → List ℕ
  below l i = after name [] (take i l)

module _ {A : Type 0} (name : A → ℕ) (needs : A → List ℕ) (d : A) where
  pub after_take : (l : List A) (i s : ℕ) → s ∈ below name l i ↔ ((j : ℕ) × (j < i) × (j < length l) × (name (get_or l j d) ≡ s))
  after_take l i s = (λ m. ⊎_elim (λ q. absurd (Memᴰ.not-nil q)) from (after_from name (take i l) [] m), to)
    where
      from : (a : A) × (a ∈ take i l) × (name a ≡ s) → (j : ℕ) × (j < i) × (j < length l) × (name (get_or l j d) ≡ s)
      from r =
          let q = ∈_get_d d r.1 in
          let h : q.0 < i = omega (arith, length-take i l) in
          (q.0, h, omega (arith, length-take i l), ap name (sym (get_or-take i l q.0 d h) ∙ q.2) ∙ r.2)

      to : (j : ℕ) × (j < i) × (j < length l) × (name (get_or l j d) ≡ s) → s ∈ below name l i
      to r = Memᴰ.cast (sym r.3 ∙ ap name (sym (get_or-take i l r.0 d r.1)))
          (after_has name (take i l) [] (get_d_∈ (take i l) r.0 d (omega (arith, length-take i l))))

  -- a listing: at each place the item is ready
  pub listing_at : (l : List A) (done : List ℕ) → Listing name needs done l ↔ ((k : ℕ) → k < length l → T (ready name needs (after name done (take k l)) (get_or l k d)))
  listing_at l done = (out l done, into l done)
    where
      out : (l : List A) (done : List ℕ) → Listing name needs done l → (k : ℕ) → k < length l → T (ready name needs (after name done (take k l)) (get_or l k d))
      out [] done h k q = let z : ⊥ = omega arith in absurd z
      out (a ∷ l) done h zero q = h.0
      out (a ∷ l) done h (suc k) q = out l (name a ∷ done) h.1 k (le_of_suc-le-suc q)

      into : (l : List A) (done : List ℕ) → ((k : ℕ) → k < length l → T (ready name needs (after name done (take k l)) (get_or l k d))) → Listing name needs done l
      into [] done f = tt
      into (a ∷ l) done f = (f 0 (suc-le-suc zero-le), into l (name a ∷ done) (λ k q. f (suc k) (suc-le-suc q)))

  pub listing_apart : (l : List A) → Listing name needs [] l → Apart name d l
  listing_apart l h i k p q e =
      T_not (has (name (get_or l k d)) (below name l k)) (ready_fresh name needs (below name l k) (get_or l k d) ((listing_at l []).0 h k q))
      (∈→has ((after_take l k (name (get_or l k d))).1 (i, p, omega arith, e)))

  -- at or before its place an item is ready if its needs stand below
  pub ready_at : (l : List A) → Apart name d l → (i k : ℕ) → i ≤ k → k < length l
      → T (ready name needs (below name l i) (get_or l k d)) ↔ ((s : ℕ) → s ∈ needs (get_or l k d) → s ∈ below name l i)
  ready_at l apart i k p q = (
    λ t. has_all→∈ (needs (get_or l k d)) (below name l i) (ready_needs name needs (below name l i) (get_or l k d) t),
    λ f. and_i (not (has (name (get_or l k d)) (below name l i))) (has_all (needs (get_or l k d)) (below name l i)) not_yet (∈→has_all (needs (get_or l k d)) (below name l i) f),
  )
    where
      not_yet : T (not (has (name (get_or l k d)) (below name l i)))
      not_yet = not_T (has (name (get_or l k d)) (below name l i))
          (λ t. let r = (after_take l i (name (get_or l k d))).0 (has→∈ (name (get_or l k d)) (below name l i) t) in apart r.0 k (omega arith) q r.3)
