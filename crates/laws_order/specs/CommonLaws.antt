-- The longest common start of two lists as the second grows, and under names.
use Rattle.std.specs.Prelude.{◌≡◌, refl, Bool, true, false, cond, not, List, [], ◌∷◌, ◌++◌, map, ℕ, zero, suc, ◌≤◌, ◌<◌, length, take, drop, get_or, T, eqb}
use Rattle.std.proofs.Common.{◌∙◌, ap, ap₂, zero-le, suc-le-suc, arith, le_of_suc-le-suc, eqb→eq, eq-eqb, ne_eqb}
use mathlib.Core.List.Memᴰ
use Rattle.laws_order.specs.TestLaws.{not_eqb}
use Rattle.model.specs.Lists.{◌∈◌}
use Rattle.model.specs.Steps.{common}

pub common_nil : (l : List ℕ) → common l [] ≡ 0
common_nil [] = refl
common_nil (a ∷ l) = refl

-- where they part, it is settled
pub common_parted : (l k r : List ℕ) → common l k < length k → common l (k ++ r) ≡ common l k
common_parted [] k r h = refl
common_parted (a ∷ l) [] r h = let z : ⊥ = omega arith in absurd z
common_parted (a ∷ l) (b ∷ k) r h = go (eqb a b) h (common_parted l k r)
  where
    go : (c : Bool) → cond c (suc (common l k)) 0 < suc (length k) → (common l k < length k → common l (k ++ r) ≡ common l k)
        → cond c (suc (common l (k ++ r))) 0 ≡ cond c (suc (common l k)) 0
    go true h ih = ap suc (ih (le_of_suc-le-suc h))
    go false h ih = refl

-- past the end of the first, it is settled
pub common_past : (l k r : List ℕ) → length l ≤ length k → common l (k ++ r) ≡ common l k
common_past [] k r h = refl
common_past (a ∷ l) [] r h = let z : ⊥ = omega arith in absurd z
common_past (a ∷ l) (b ∷ k) r h = ap (λ (n : ℕ). cond (eqb a b) (suc n) 0) (common_past l k r (le_of_suc-le-suc h))

-- the second is the start of the first: one more is common exactly if it goes on with the same
pub common_more : (l k : List ℕ) (x : ℕ) → common l k ≡ length k → length k < length l → get_or l (length k) 0 ≡ x → common l (k ++ x ∷ []) ≡ suc (length k)
common_more [] k x e h q = let z : ⊥ = omega arith in absurd z
common_more (a ∷ l) [] x e h q = ap (λ (c : Bool). cond c (suc (common l [])) 0) (eq-eqb a x q) ∙ ap suc (common_nil l)
common_more (a ∷ l) (b ∷ k) x e h q = go (eqb a b) e (λ e'. common_more l k x e' (le_of_suc-le-suc h) q)
  where
    go : (c : Bool) → cond c (suc (common l k)) 0 ≡ suc (length k) → (common l k ≡ length k → common l (k ++ x ∷ []) ≡ suc (length k))
        → cond c (suc (common l (k ++ x ∷ []))) 0 ≡ suc (suc (length k))
    go true e ih = ap suc (ih (omega arith))
    go false e ih = let z : ⊥ = omega arith in absurd z

pub common_other : (l k : List ℕ) (x : ℕ) → common l k ≡ length k → length k < length l → (get_or l (length k) 0 ≡ x → ⊥) → common l (k ++ x ∷ []) ≡ common l k
common_other [] k x e h q = refl
common_other (a ∷ l) [] x e h q = ap (λ (c : Bool). cond c (suc (common l [])) 0) (ne_eqb a x q)
common_other (a ∷ l) (b ∷ k) x e h q = go (eqb a b) e (λ e'. common_other l k x e' (le_of_suc-le-suc h) q)
  where
    go : (c : Bool) → cond c (suc (common l k)) 0 ≡ suc (length k) → (common l k ≡ length k → common l (k ++ x ∷ []) ≡ common l k)
        → cond c (suc (common l (k ++ x ∷ []))) 0 ≡ cond c (suc (common l k)) 0
    go true e ih = ap suc (ih (omega arith))
    go false e ih = refl

-- names that tell the items apart leave it as it is
pub common_named : (name : ℕ → ℕ) (l k : List ℕ) → ((a b : ℕ) → a ∈ l → b ∈ k → name a ≡ name b → a ≡ b) → common (map name l) (map name k) ≡ common l k
common_named name [] k f = refl
common_named name (a ∷ l) [] f = refl
common_named name (a ∷ l) (b ∷ k) f =
    go (eqb a b) (eqb→eq a b) (not_eqb a b) (common_named name l k (λ x y p q. f x y (Memᴰ.tail p) (Memᴰ.tail q)))
  where
    go : (c : Bool) → (T c → a ≡ b) → (T (not c) → a ≡ b → ⊥) → common (map name l) (map name k) ≡ common l k
        → cond (eqb (name a) (name b)) (suc (common (map name l) (map name k))) 0 ≡ cond c (suc (common l k)) 0
    go true same other ih = ap (λ (d : Bool). cond d (suc (common (map name l) (map name k))) 0) (eq-eqb (name a) (name b) (ap name (same tt))) ∙ ap suc ih
    go false same other ih =
        ap (λ (d : Bool). cond d (suc (common (map name l) (map name k))) 0)
        (ne_eqb (name a) (name b) (λ e. other tt (f a b (Memᴰ.head refl) (Memᴰ.head refl) e)))

-- ---- it is a common start, and none is longer
pub common_start : (l k : List ℕ) → take (common l k) l ≡ take (common l k) k
common_start [] [] = refl
common_start [] (b ∷ k) = refl
common_start (a ∷ l) [] = refl
common_start (a ∷ l) (b ∷ k) = go (eqb a b) (eqb→eq a b) (common_start l k)
  where
    go : (c : Bool) → (T c → a ≡ b) → take (common l k) l ≡ take (common l k) k → take (cond c (suc (common l k)) 0) (a ∷ l) ≡ take (cond c (suc (common l k)) 0) (b ∷ k)
    go true f h = ap₂ ◌∷◌ (f tt) h
    go false f h = refl

pub common_longest : (l k : List ℕ) (n : ℕ) → n ≤ length l → n ≤ length k → take n l ≡ take n k → n ≤ common l k
common_longest l k zero p q e = zero-le
common_longest [] k (suc n) p q e = let z : ⊥ = omega arith in absurd z
common_longest (a ∷ l) [] (suc n) p q e = let z : ⊥ = omega arith in absurd z
common_longest (a ∷ l) (b ∷ k) (suc n) p q e =
    go (eqb a b) (not_eqb a b) (common_longest l k n (le_of_suc-le-suc p) (le_of_suc-le-suc q) (ap (drop 1) e))
  where
    heads : a ≡ b
    heads = ap (λ (x : List ℕ). get_or x 0 0) e

    go : (c : Bool) → (T (not c) → a ≡ b → ⊥) → n ≤ common l k → suc n ≤ cond c (suc (common l k)) 0
    go true f h = suc-le-suc h
    go false f h = absurd (f tt heads)
