-- Laws of what a test keeps of a list.
use Rattle.std.specs.Prelude.{◌≡◌, refl, Bool, true, false, cond, not, ◌&&◌, List, [], ◌∷◌, map, ℕ, zero, suc, take, drop, T}
use Rattle.std.proofs.Common.{sym, ◌∙◌, ap, ap₂}
use mathlib.Core.List.Memᴰ
use Rattle.model.specs.Lists.{◌∈◌, keep}
use Rattle.laws_order.specs.TestLaws.{and_l, and_r, and_i, is_true, is_false, same_test, keep_cong}

pub keep_map : {A B : Type 0} (f : A → B) (p : B → Bool) (l : List A) → map f (keep (λ a. p (f a)) l) ≡ keep p (map f l)
keep_map f p [] = refl
keep_map {A} {B} f p (a ∷ l) = go (p (f a)) (keep_map f p l)
  where
    go : (c : Bool) → map f (keep (λ x. p (f x)) l) ≡ keep p (map f l)
        → map f (cond c (a ∷ keep (λ x. p (f x)) l) (keep (λ x. p (f x)) l)) ≡ cond c (f a ∷ keep p (map f l)) (keep p (map f l))
    go true ih = ap (λ (k : List B). f a ∷ k) ih
    go false ih = ih

-- where all pass, all are kept
pub keep_all : {A : Type 0} (p : A → Bool) (l : List A) → ((a : A) → a ∈ l → T (p a)) → keep p l ≡ l
keep_all p [] h = refl
keep_all {A} p (a ∷ l) h =
    ap₂ (λ (b : Bool) (k : List A). cond b (a ∷ k) k) (is_true (p a) (h a (Memᴰ.head refl))) (keep_all p l (λ b k. h b (Memᴰ.tail k)))

-- and where the first K fail and the others pass, those are left
pub keep_drop : {A : Type 0} (p : A → Bool) (K : ℕ) (l : List A) → ((a : A) → a ∈ take K l → T (not (p a))) → ((a : A) → a ∈ drop K l → T (p a)) → keep p l ≡ drop K l
keep_drop p zero l fail pass = keep_all p l pass
keep_drop p (suc K) [] fail pass = refl
keep_drop {A} p (suc K) (a ∷ l) fail pass =
    ap (λ (b : Bool). cond b (a ∷ keep p l) (keep p l)) (is_false (p a) (fail a (Memᴰ.head refl)))
    ∙ keep_drop p K l (λ b k. fail b (Memᴰ.tail k)) pass

-- two tests, one after the other
keep_keep : {A : Type 0} (p q : A → Bool) (l : List A) → keep p (keep q l) ≡ keep (λ a. q a && p a) l
keep_keep p q [] = refl
keep_keep {A} p q (a ∷ l) = go (q a) (keep_keep p q l)
  where
    go : (b : Bool) → keep p (keep q l) ≡ keep (λ x. q x && p x) l
        → keep p (cond b (a ∷ keep q l) (keep q l)) ≡ cond (b && p a) (a ∷ keep (λ x. q x && p x) l) (keep (λ x. q x && p x) l)
    go true ih = ap (λ (k : List A). cond (p a) (a ∷ k) k) ih
    go false ih = ih

pub keep_swap : {A : Type 0} (p q : A → Bool) (l : List A) → keep p (keep q l) ≡ keep q (keep p l)
keep_swap p q l =
    keep_keep p q l
    ∙ keep_cong (λ a. q a && p a) (λ a. p a && q a) l
    (λ a k. same_test (q a && p a) (p a && q a) (λ t. and_i (p a) (q a) (and_r (q a) (p a) t) (and_l (q a) (p a) t)) (λ t. and_i (q a) (p a) (and_r (p a) (q a) t) (and_l (p a) (q a) t)))
    ∙ sym (keep_keep q p l)

-- of two tests the stronger one decides
pub keep_stronger : {A : Type 0} (p q : A → Bool) (l : List A) → ((a : A) → a ∈ l → T (p a) → T (q a)) → keep p (keep q l) ≡ keep p l
keep_stronger p q l f =
    keep_keep p q l ∙ keep_cong (λ a. q a && p a) p l (λ a k. same_test (q a && p a) (p a) (and_r (q a) (p a)) (λ t. and_i (q a) (p a) (f a k t) t))
