-- Two lists are compared in two parts; and whether a list is all zero, one byte after the other.
use Rattle.std.specs.Prelude.{◌≡◌, refl, Bool, true, false, ◌&&◌, List, [], ◌∷◌, ℕ, zero, suc, ◌+◌, ◌-◌, ◌≤◌, ◌<◌, get_or, length, take, drop, replicate, eqb}
use Rattle.std.proofs.Common.{add-one, drop-cons, drop_of_length-le, sym, ◌∙◌, ap, ap₂, arith, eqb→eq, length-drop, take_all}
use Rattle.std.proofs.Math.Bool.{and_assoc, and-true}
use Rattle.model.specs.Lists.{same}
use Rattle.laws_order.specs.TestLaws.{same_test, eq→eqb}

-- two lists are the same if their fronts are, and what is behind these
parted : (n : ℕ) (a b : List ℕ) → same a b ≡ same (take n a) (take n b) && same (drop n a) (drop n b)
parted zero a b = refl
parted (suc n) [] [] = refl
parted (suc n) [] (y ∷ b) = refl
parted (suc n) (x ∷ a) [] = refl
parted (suc n) (x ∷ a) (y ∷ b) = ap (λ (t : Bool). eqb x y && t) (parted n a b) ∙ sym (and_assoc (eqb x y) (same (take n a) (take n b)) (same (drop n a) (drop n b)))

zero_first : (x : ℕ) → eqb 0 x ≡ eqb x 0
zero_first x = same_test (eqb 0 x) (eqb x 0) (λ t. eq→eqb (sym (eqb→eq 0 x t))) (λ t. eq→eqb (sym (eqb→eq x 0 t)))

abbrev pub all_zero : List ℕ → Bool
all_zero l = same (replicate (length l) 0) l

-- one byte more is seen
pub next_zero : (ok : Bool) (l : List ℕ) (k : ℕ) → k < length l → ok && all_zero (drop k l) ≡ (ok && eqb (get_or l k 0) 0) && all_zero (drop (k + 1) l)
next_zero ok l k h = rw (add-one, drop-cons l k 0, zero_first (get_or l k 0)) (sym (and_assoc ok (eqb (get_or l k 0) 0) (all_zero (drop (suc k) l))))

pub no_more : (ok : Bool) (l : List ℕ) (k : ℕ) → length l ≤ k → ok && all_zero (drop k l) ≡ ok
no_more ok l k h = ap (λ (x : List ℕ). ok && all_zero x) (drop_of_length-le l h) ∙ and-true ok

-- a copy that is zero behind its front, and a buffer
module _ (copy b : List ℕ) (used : ℕ) (cleared : drop used copy ≡ replicate (length b - used) 0) where
  compared : (front : Bool) → front ≡ same (take used copy) (take used b)
      → same copy b ≡ front && same (replicate (length b - used) 0) (drop used b)
  compared front e = parted used copy b ∙ ap₂ (λ (t : Bool) (l : List ℕ). t && same l (drop used b)) (sym e) cleared

  pub front_differs : {front : Bool} → front ≡ same (take used copy) (take used b) → front ≡ false → false ≡ same copy b
  front_differs {front} e f = sym (compared false (sym f ∙ e))

  pub rest_decides : {front : Bool} → front ≡ same (take used copy) (take used b) → front ≡ true
      → all_zero (take (length b - used) (drop used b)) ≡ same copy b
  rest_decides {front} e f =
      ap all_zero (take_all (length b - used) (drop used b) (omega (arith, length-drop used b)))
      ∙ ap (λ (n : ℕ). same (replicate n 0) (drop used b)) (length-drop used b) ∙ sym (compared true (sym f ∙ e))
