-- The greater of two numbers, and the greatest over a list.
use Rattle.std.specs.Prelude.{◌≡◌, refl, List, [], ◌∷◌, ◌++◌, map, ℕ, ◌≤◌, max}
use Rattle.std.proofs.Common.{sym, ◌∙◌, ap, arith, le_refl, le_trans, le_antisymm}
use Rattle.std.proofs.Math.Nat.{le-max_left, max-le}
use Rattle.model.specs.Lists.{greatest}

pub le_left : {x t : ℕ} (g : ℕ) → x ≤ t → x ≤ max t g
le_left g h = omega arith

pub le_right : {x g : ℕ} (t : ℕ) → x ≤ g → x ≤ max t g
le_right t h = omega arith

pub max_less : {x g : ℕ} (o : ℕ) → x ≤ g → max o x ≤ max o g
max_less o h = omega arith

pub max_assoc : (a b c : ℕ) → max (max a b) c ≡ max a (max b c)
max_assoc a b c = omega arith

-- numbers g and h, each no greater than the other or t: raised to t they are one
pub raised_same : (b : ℕ) {o t g h : ℕ} → o ≤ t → g ≤ max t h → h ≤ max t g → max t (max (max b o) g) ≡ max (max b t) h
raised_same b {o} {t} {g} {h} p q r =
    let top : t ≤ max (max b t) h = le_left h (le_right b (le_refl t)) in
    let old : t ≤ max t (max (max b o) g) = le-max_left t (max (max b o) g) in
    le_antisymm
    (max-le top (max-le (max-le (le_left h (le-max_left b t)) (le_trans p top)) (le_trans q (max-le top (le_right (max b t) (le_refl h))))))
    (max-le (max-le (le_right t (le_left g (le-max_left b o))) old) (le_trans r (max-le old (le_right t (le_right (max b o) (le_refl g))))))

-- ---- the greatest over lists end to end, and of what a function makes of a list
pub greatest_append : {A : Type 0} (f : A → ℕ) (p q : List A) → greatest f (p ++ q) ≡ max (greatest f p) (greatest f q)
greatest_append f [] q = omega arith
greatest_append f (a ∷ p) q = ap (max (f a)) (greatest_append f p q) ∙ sym (max_assoc (f a) (greatest f p) (greatest f q))

pub greatest_map : {A B : Type 0} (f : B → ℕ) (g : A → B) (l : List A) → greatest (λ a. f (g a)) l ≡ greatest f (map g l)
greatest_map f g [] = refl
greatest_map f g (a ∷ l) = ap (max (f (g a))) (greatest_map f g l)
