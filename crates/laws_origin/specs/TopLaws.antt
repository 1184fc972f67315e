-- Tops: what they cover, and where a search among them ends.
use Rattle.std.specs.Prelude.{◌≡◌, refl, ◌&&◌, List, [], ◌∷◌, map, ℕ, zero, suc, ◌≤◌, ◌<◌, length, get_or, T, eqb, ltb, leb}
use Rattle.std.proofs.Common.{sym, ◌∙◌, ap, ⊎_elim, arith, le_of_suc-le-suc, eqb→eq, leb→le, le→leb, ltb→lt, lt→ltb, nltb→le}
use Rattle.std.proofs.lemmas.List.{length-map}
use Rattle.model.specs.Lists.{ascending}
use Rattle.model.specs.Message.{line_of, number_of}
use Rattle.model.specs.Tops.{at_or_below, covered}
use Rattle.laws_order.specs.TestLaws.{and_l, and_r, and_i, eq→eqb, decide, same_test, some_∈, ∈_some}
use Rattle.laws_order.specs.ListLaws.{get_d_∈, ∈_get_d, get_d_map}

pub below_out : (top s : ℕ) → T (at_or_below top s) → (line_of s ≡ line_of top) × (number_of s ≤ number_of top)
below_out top s t = (
  eqb→eq (line_of s) (line_of top) (and_l (eqb (line_of s) (line_of top)) (leb (number_of s) (number_of top)) t),
  leb→le (number_of s) (number_of top) (and_r (eqb (line_of s) (line_of top)) (leb (number_of s) (number_of top)) t),
)

pub below_in : (top s : ℕ) → line_of s ≡ line_of top → number_of s ≤ number_of top → T (at_or_below top s)
below_in top s e h = and_i (eqb (line_of s) (line_of top)) (leb (number_of s) (number_of top)) (eq→eqb e) (le→leb (number_of s) (number_of top) h)

-- ---- numbers that ascend, by their places
first_lower : (a : ℕ) (l : List ℕ) → T (ascending (a ∷ l)) → (j : ℕ) → j < length l → a < get_or l j 0
first_lower a [] t j h = let z : ⊥ = omega arith in absurd z
first_lower a (b ∷ l) t zero h = ltb→lt a b (and_l (ltb a b) (ascending (b ∷ l)) t)
first_lower a (b ∷ l) t (suc j) h =
    let below : a < b = ltb→lt a b (and_l (ltb a b) (ascending (b ∷ l)) t) in
    omega (arith, first_lower b l (and_r (ltb a b) (ascending (b ∷ l)) t) j (le_of_suc-le-suc h))

rest_ascends : (a : ℕ) (l : List ℕ) → T (ascending (a ∷ l)) → T (ascending l)
rest_ascends a [] t = tt
rest_ascends a (b ∷ l) t = and_r (ltb a b) (ascending (b ∷ l)) t

pub ascending_at : (l : List ℕ) → T (ascending l) → (i j : ℕ) → i < j → j < length l → get_or l i 0 < get_or l j 0
ascending_at [] t i j h q = let z : ⊥ = omega arith in absurd z
ascending_at (a ∷ l) t i zero h q = let z : ⊥ = omega arith in absurd z
ascending_at (a ∷ l) t zero (suc j) h q = first_lower a l t j (le_of_suc-le-suc q)
ascending_at (a ∷ l) t (suc i) (suc j) h q = ascending_at l (rest_ascends a l t) i j (le_of_suc-le-suc h) (le_of_suc-le-suc q)

-- ---- tops that ascend by line
module _ (tops : List ℕ) (ascends : T (ascending (map line_of tops))) where
  pub lines_ascend : (i j : ℕ) → i < j → j < length tops → line_of (get_or tops i 0) < line_of (get_or tops j 0)
  lines_ascend i j h q =
      omega (
        arith,
        get_d_map line_of tops i 0 0 (omega arith),
        get_d_map line_of tops j 0 0 q,
        ascending_at (map line_of tops) ascends i j h (omega (arith, length-map tops line_of)),
      )

  -- and so they do as sequences
  pub tops_ascend : (i j : ℕ) → i < j → j < length tops → get_or tops i 0 < get_or tops j 0
  tops_ascend i j h q = omega (arith, lines_ascend i j h q)

-- a top covers itself
pub covered_top : (tops : List ℕ) (k : ℕ) → k < length tops → T (covered tops (get_or tops k 0))
covered_top tops k h =
    ∈_some (λ top. at_or_below top (get_or tops k 0)) tops (get_or tops k 0) (get_d_∈ tops k 0 h) (below_in (get_or tops k 0) (get_or tops k 0) refl (omega arith))

-- A sequence that is no top is covered exactly by the first top above it, if that is on its line.
module _ (tops : List ℕ) (ascends : T (ascending (map line_of tops))) (s p : ℕ)
    (before : (k : ℕ) → k < p → get_or tops k 0 < s) (after : (k : ℕ) → p ≤ k → k < length tops → s < get_or tops k 0) where
  place_of : (k : ℕ) → k < length tops → line_of s ≡ line_of (get_or tops k 0) → number_of s ≤ number_of (get_or tops k 0) → k ≡ p
  place_of k h e n = ⊎_elim
      (λ t. let lower = before k (ltb→lt k p t) in let z : ⊥ = omega arith in absurd z)
      (λ t. ⊎_elim
      (λ u. let above = after p (omega arith) (omega (arith, ltb→lt p k u)) in
      let z : ⊥ = omega (arith, lines_ascend tops ascends p k (ltb→lt p k u) h) in absurd z)
      (λ u. omega (arith, nltb→le k p t, nltb→le p k u))
      (decide (ltb p k)))
      (decide (ltb k p))

  pub covered_found : covered tops s ≡ ltb p (length tops) && eqb (line_of (get_or tops p 0)) (line_of s)
  covered_found = same_test (covered tops s) (ltb p (length tops) && eqb (line_of (get_or tops p 0)) (line_of s)) there back
    where
      there : T (covered tops s) → T (ltb p (length tops) && eqb (line_of (get_or tops p 0)) (line_of s))
      there t =
          let r = some_∈ (λ top. at_or_below top s) tops t in
          let o = below_out r.0 s r.2 in
          let g = ∈_get_d 0 r.1 in
          let e : g.0 ≡ p = place_of g.0 g.1 (o.0 ∙ ap line_of (sym g.2)) (omega (arith, o.1, ap number_of g.2)) in
          and_i (ltb p (length tops)) (eqb (line_of (get_or tops p 0)) (line_of s)) (lt→ltb p (length tops) (omega (arith, g.1)))
          (eq→eqb (ap (λ (k : ℕ). line_of (get_or tops k 0)) (sym e) ∙ ap line_of g.2 ∙ sym o.0))

      back : T (ltb p (length tops) && eqb (line_of (get_or tops p 0)) (line_of s)) → T (covered tops s)
      back t =
          let h : p < length tops = ltb→lt p (length tops) (and_l (ltb p (length tops)) (eqb (line_of (get_or tops p 0)) (line_of s)) t) in
          let e : line_of (get_or tops p 0) ≡ line_of s = eqb→eq (line_of (get_or tops p 0)) (line_of s) (and_r (ltb p (length tops)) (eqb (line_of (get_or tops p 0)) (line_of s)) t) in
          let above : s < get_or tops p 0 = after p (omega arith) h in
          ∈_some (λ top. at_or_below top s) tops (get_or tops p 0) (get_d_∈ tops p 0 h) (below_in (get_or tops p 0) s (sym e) (omega arith))
