-- A strict total order, as a test, and that keys are under one: lists of numbers, compared place by place.
use Rattle.std.specs.Prelude.{◌≡◌, refl, ◌⊎◌, Bool, not, ◌&&◌, ◌||◌, List, [], ◌∷◌, ℕ, ◌<◌, T, eqb, ltb}
use Rattle.std.proofs.Common.{sym, ◌∙◌, ap, ap₂, subst, inl, inr, ⊎_elim, arith, lt_irrefl, eqb→eq, ltb→lt, lt→ltb, T_not, eq-eqb, ne_eqb, le-ltb}
use Rattle.std.proofs.Math.Bool.{or-false}
use Rattle.std.proofs.Math.Dec.{eqb_refl, not_T}
use Rattle.model.specs.Order.{less}
use Rattle.laws_order.specs.TestLaws.{and_l, and_r, and_i, or_l, or_r, or_e}

pub record Total {K : Type 0} (less : K → K → Bool) : Type 0 where
  pub irr : (a : K) → T (less a a) → ⊥
  pub trans : (a b c : K) → T (less a b) → T (less b c) → T (less a c)
  pub tri : (a b : K) → T (not (less a b)) → T (not (less b a)) → a ≡ b

less_out : (a b : ℕ) (l k : List ℕ) → T (less (a ∷ l) (b ∷ k)) → (a < b) ⊎ ((a ≡ b) × T (less l k))
less_out a b l k t =
    ⊎_elim (λ h. inl (ltb→lt a b h)) (λ h. inr (eqb→eq a b (and_l (eqb a b) (less l k) h), and_r (eqb a b) (less l k) h))
    (or_e (ltb a b) (eqb a b && less l k) t)

less_lt : (a b : ℕ) (l k : List ℕ) → a < b → T (less (a ∷ l) (b ∷ k))
less_lt a b l k h = or_l (ltb a b) (eqb a b && less l k) (lt→ltb a b h)

less_eq : (a b : ℕ) (l k : List ℕ) → a ≡ b → T (less l k) → T (less (a ∷ l) (b ∷ k))
less_eq a b l k e h =
    or_r (ltb a b) (eqb a b && less l k) (and_i (eqb a b) (less l k) (subst (λ (x : ℕ). T (eqb a x)) e (eqb_refl a)) h)

less_irr : (l : List ℕ) → T (less l l) → ⊥
less_irr [] t = t
less_irr (a ∷ l) t = ⊎_elim (λ h. lt_irrefl a h) (λ h. less_irr l h.1) (less_out a a l l t)

less_trans : (l k m : List ℕ) → T (less l k) → T (less k m) → T (less l m)
less_trans [] [] m p q = absurd p
less_trans [] (b ∷ k) [] p q = absurd q
less_trans [] (b ∷ k) (c ∷ m) p q = tt
less_trans (a ∷ l) [] m p q = absurd p
less_trans (a ∷ l) (b ∷ k) [] p q = absurd q
less_trans (a ∷ l) (b ∷ k) (c ∷ m) p q = go (λ u v. less_trans l k m u v) (less_out a b l k p) (less_out b c k m q)
  where
    go : (T (less l k) → T (less k m) → T (less l m)) → (a < b) ⊎ ((a ≡ b) × T (less l k)) → (b < c) ⊎ ((b ≡ c) × T (less k m)) → T (less (a ∷ l) (c ∷ m))
    go ih (inl u) (inl v) = less_lt a c l m (omega arith)
    go ih (inl u) (inr v) = less_lt a c l m (omega arith)
    go ih (inr u) (inl v) = less_lt a c l m (omega arith)
    go ih (inr u) (inr v) = less_eq a c l m (u.0 ∙ v.0) (ih u.1 v.1)

less_tri : (l k : List ℕ) → T (not (less l k)) → T (not (less k l)) → l ≡ k
less_tri [] [] p q = refl
less_tri [] (b ∷ k) p q = absurd p
less_tri (a ∷ l) [] p q = absurd q
less_tri (a ∷ l) (b ∷ k) p q = ap₂ ◌∷◌ heads (less_tri l k
    (not_T (less l k) (λ t. T_not (less (a ∷ l) (b ∷ k)) p (less_eq a b l k heads t)))
    (not_T (less k l) (λ t. T_not (less (b ∷ k) (a ∷ l)) q (less_eq b a k l (sym heads) t))))
  where
    heads : a ≡ b
    heads =
        let u : ¬ (a < b) = λ h. T_not (less (a ∷ l) (b ∷ k)) p (less_lt a b l k h) in
        let v : ¬ (b < a) = λ h. T_not (less (b ∷ k) (a ∷ l)) q (less_lt b a k l h) in
        omega arith

pub less_total : Total less
less_total = record { irr = less_irr; trans = less_trans; tri = less_tri }

-- ---- two keys by their first numbers
-- they differ, and decide
pub less_apart : (a b : ℕ) (l k : List ℕ) → (a ≡ b → ⊥) → less (a ∷ l) (b ∷ k) ≡ ltb a b
less_apart a b l k h = ap (λ (t : Bool). ltb a b || (t && less l k)) (ne_eqb a b h) ∙ or-false (ltb a b)

-- they are level, and the rest decides
pub less_level : (a b : ℕ) (l k : List ℕ) → a ≡ b → less (a ∷ l) (b ∷ k) ≡ less l k
less_level a b l k e = ap₂ (λ (t u : Bool). t || (u && less l k)) (le-ltb a b (omega arith)) (eq-eqb a b e)

-- whichever they are, what the rests say counts alone
pub less_behind : (a b : ℕ) {t u : Bool} → t ≡ u → (ltb a b || (eqb a b && t)) ≡ (ltb a b || (eqb a b && u))
less_behind a b e = ap (λ (t : Bool). ltb a b || (eqb a b && t)) e
