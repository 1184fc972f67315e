-- A search that halves what is left, among numbers that ascend by place.
use Rattle.std.specs.Prelude.{◌≡◌, Bool, true, false, ℕ, ◌+◌, ◌-◌, ◌/◌, ◌≤◌, ◌<◌, eqb, ltb}
use Rattle.std.proofs.Common.{sym, ◌∙◌, arith, ltb-true, ltb-false}
use Rattle.std.proofs.lemmas.Bool.{eqb-false}
use Rattle.laws_order.specs.ScanLaws.{lower_before, higher_after}

-- What it knows of n numbers: those before `first` are lower than the one that is sought, those from `last` on higher.
pub record Narrows (f : ℕ → ℕ) (n s first last : ℕ) : Type 0 where
  pub ordered : first ≤ last
  pub inside : last ≤ n
  pub before : (k : ℕ) → k < first → f k < s
  pub after : (k : ℕ) → last ≤ k → k < n → s < f k

abbrev pub middle : ℕ → ℕ → ℕ
middle first last = first + (last - first) / 2

pub narrows_first : (f : ℕ → ℕ) (n s : ℕ) → Narrows f n s 0 n
narrows_first f n s = record {
  ordered = omega arith;
  inside = omega arith;
  before = λ k h. let z : ⊥ = omega arith in absurd z;
  after = λ k p q. let z : ⊥ = omega arith in absurd z;
}

-- by whether the one in the middle is lower
module _ {f : ℕ → ℕ} {n s first last : ℕ} (g : Narrows f n s first last) (ascends : (i j : ℕ) → i < j → j < n → f i < f j) (left : first < last)
    {x : ℕ} (read : f (middle first last) ≡ x) {lower : Bool} (e : lower ≡ ltb x s) where
  pub narrows_up : lower ≡ true → Narrows f n s (middle first last + 1) last
  narrows_up t =
      let below : x < s = ltb-true x s (sym e ∙ t) in
      record {
        ordered = omega arith;
        inside = g.inside;
        before = lower_before f n ascends s (middle first last) (omega (arith, g.inside)) (omega arith);
        after = g.after;
      }

  pub narrows_down : lower ≡ false → {same : Bool} → same ≡ eqb x s → same ≡ false → Narrows f n s first (middle first last)
  narrows_down t d u =
      let other : x ≡ s → ⊥ = eqb-false x s (sym d ∙ u) in
      let least : s ≤ x = ltb-false x s (sym e ∙ t) in
      record {
        ordered = omega arith;
        inside = omega (arith, g.inside);
        before = g.before;
        after = higher_after f n ascends s (middle first last) (omega (arith, g.inside)) (omega arith);
      }
