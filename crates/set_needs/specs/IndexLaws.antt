-- The index of a sequence among names: that of the name, or missing where there is none.
use Rattle.std.specs.Prelude.{◌≡◌, refl, ◌⊎◌, Bool, true, false, cond, not, List, [], ◌∷◌, ℕ, zero, suc, ◌+◌, ◌≤◌, ◌<◌, length, get_or, T, eqb}
use Rattle.std.proofs.Common.{sym, ◌∙◌, inl, inr, ⊎_elim, arith, le_of_suc-le-suc, eqb→eq}
use Rattle.model.specs.Layout.{capacity}
use Rattle.laws_order.specs.TestLaws.{not_eqb}
use Rattle.set_needs.specs.Names.{Ascends, missing, index_from, index_of}

abbrev pub Unnamed : List ℕ → ℕ → Type 0
Unnamed names s = (i : ℕ) → i < length names → get_or names i 0 ≡ s → ⊥

abbrev pub Named : List ℕ → ℕ → ℕ → Type 0
Named names s n = (i : ℕ) × (i < length names) × (get_or names i 0 ≡ s) × (n ≡ i)

unnamed_more : (x : ℕ) (names : List ℕ) (s : ℕ) → (x ≡ s → ⊥) → Unnamed names s → Unnamed (x ∷ names) s
unnamed_more x names s f g zero h e = f e
unnamed_more x names s f g (suc i) h e = g i (le_of_suc-le-suc h) e

index_from_lem : (names : List ℕ) (k s : ℕ)
    → ((index_from k names s ≡ missing) × Unnamed names s) ⊎ ((i : ℕ) × (i < length names) × (get_or names i 0 ≡ s) × (index_from k names s ≡ k + i))
index_from_lem [] k s = inl (refl, λ i h e. let z : ⊥ = omega arith in z)
index_from_lem (x ∷ names) k s = go (eqb x s) (eqb→eq x s) (not_eqb x s) (index_from_lem names (suc k) s)
  where
    go : (c : Bool) → (T c → x ≡ s) → (T (not c) → x ≡ s → ⊥)
        → ((index_from (suc k) names s ≡ missing) × Unnamed names s) ⊎ ((i : ℕ) × (i < length names) × (get_or names i 0 ≡ s) × (index_from (suc k) names s ≡ suc k + i))
        → ((cond c k (index_from (suc k) names s) ≡ missing) × Unnamed (x ∷ names) s) ⊎ ((i : ℕ) × (i < length (x ∷ names)) × (get_or (x ∷ names) i 0 ≡ s) × (cond c k (index_from (suc k) names s) ≡ k + i))
    go true f g ih = inr (0, omega arith, f tt, omega arith)
    go false f g (inl r) = inl (r.0, unnamed_more x names s (g tt) r.1)
    go false f g (inr r) = inr (suc r.0, omega (arith, r.1), r.2, omega (arith, r.3))

-- a sequence is no name, or its index is that of one
pub index_cases : (names : List ℕ) (s : ℕ) → ((index_of names s ≡ missing) × Unnamed names s) ⊎ Named names s (index_of names s)
unfolding index_of
index_cases names s = ⊎_elim inl (λ r. inr (r.0, r.1, r.2, omega (arith, r.3))) (index_from_lem names 0 s)

pub index_small : (names : List ℕ) → length names ≤ capacity → (s : ℕ) → index_of names s ≤ missing
index_small names h s = ⊎_elim (λ r. omega (arith, r.0)) (λ r. omega (arith, r.1, r.3)) (index_cases names s)

-- ---- among ascending names
module _ (names : List ℕ) (ascends : Ascends names) (s k : ℕ) (inside : k < length names) where
  -- its index is the only place that has it
  pub index_here : get_or names k 0 ≡ s → k ≡ index_of names s
  index_here e = ⊎_elim (λ r. absurd (r.1 k inside e)) (λ r. same r.0 r.1 r.2 ∙ sym r.3) (index_cases names s)
    where
      same : (i : ℕ) → i < length names → get_or names i 0 ≡ s → k ≡ i
      same i h f =
          let before : ¬ (i < k) = λ p. let z : ⊥ = omega (arith, ascends i k p inside) in z in
          let after : ¬ (k < i) = λ p. let z : ⊥ = omega (arith, ascends k i p h) in z in
          omega arith

-- lower names before a place and higher ones from it on: none has it
pub index_none : (names : List ℕ) (s p : ℕ) → ((i : ℕ) → i < p → get_or names i 0 < s) → ((i : ℕ) → p ≤ i → i < length names → s < get_or names i 0)
    → missing ≡ index_of names s
index_none names s p before after = ⊎_elim (λ r. sym r.0) (λ r. absurd (no r.0 r.1 r.2)) (index_cases names s)
  where
    no : (i : ℕ) → i < length names → get_or names i 0 ≡ s → ⊥
    no i h e =
        let late : ¬ (i < p) = λ k. let z : ⊥ = omega (arith, before i k) in z in
        let early : ¬ (p ≤ i) = λ k. let z : ⊥ = omega (arith, after i k h) in z in
        omega arith
