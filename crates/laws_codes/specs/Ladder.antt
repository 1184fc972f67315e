-- The ladder of codes: what a call answers, from what its checks told of its conditions, one after the other; and what 0 tells of them.
use Rattle.std.specs.Prelude.{◌≡◌, refl, Bool, true, false, cond, not, ◌||◌, [], ◌∷◌, ℕ, ◌<◌, drop, T}
use Rattle.std.proofs.Common.{sym, ◌∙◌, ap, arith}
use Rattle.model.specs.Codes.{Conditions, lowest_code}

-- ---- the code of a list of conditions
pub record Answers (l : Conditions) (code : ℕ) : Type 0 where
  pub is : lowest_code l ≡ code

-- the conditions behind the first n decide: so it is where the first n do not hold
abbrev pub Passed : ℕ → Conditions → Type 0
Passed n l = (code : ℕ) → Answers (drop n l) code → Answers l code

pub none : Answers [] 0
none = record { is = refl }

module _ {n : ℕ} {l : Conditions} where
  -- the first condition holds, or it does not
  pub met : {c : Bool} → c ≡ true → Answers ((n, c) ∷ l) n
  met e = record { is = ap (λ (x : Bool). cond x n (lowest_code l)) e }

  pub free : {c : Bool} {code : ℕ} → c ≡ false → Answers l code → Answers ((n, c) ∷ l) code
  free e r = record { is = ap (λ (x : Bool). cond x n (lowest_code l)) e ∙ r.is }

  -- where the first condition is that a test fails: it failed, or it did not
  pub fails : {t : Bool} → false ≡ t → Answers ((n, not t) ∷ l) n
  fails e = met (ap not (sym e))

  pub passes : {t : Bool} {code : ℕ} → true ≡ t → Answers l code → Answers ((n, not t) ∷ l) code
  passes e r = free (ap not (sym e)) r

  -- it has two parts
  pub either : (a b : Bool) {code : ℕ} → Answers ((n, a) ∷ (n, b) ∷ l) code → Answers ((n, a || b) ∷ l) code
  either true b r = record { is = r.is }
  either false b r = record { is = r.is }

-- a check answered r, which is k: what its contract says of r holds of k
pub tells : {A : Type 0} (test : A → Bool) {r k : A} {t : Bool} → r ≡ k → test r ≡ t → test k ≡ t
tells test e h = sym (ap test e) ∙ h

-- ---- 0 is answered only where no condition holds
abbrev pub Numbered : Conditions → Type 0
Numbered [] = Unit {0}
Numbered (c ∷ l) = (0 < c.0) × Numbered l

abbrev pub AllFree : Conditions → Type 0
AllFree [] = Unit {0}
AllFree (c ∷ l) = T (not c.1) × AllFree l

pub all_free : (l : Conditions) → Numbered l → lowest_code l ≡ 0 → AllFree l
all_free [] h e = tt
all_free (c ∷ l) h e = go c.1 (all_free l h.1) e
  where
    go : (b : Bool) → (lowest_code l ≡ 0 → AllFree l) → cond b c.0 (lowest_code l) ≡ 0 → T (not b) × AllFree l
    go true f e = let z : ⊥ = omega (arith, h.0) in absurd z
    go false f e = (tt, f e)

-- of a condition that a test fails
pub not_not : (t : Bool) → T (not (not t)) → T t
not_not true h = tt
not_not false h = h
