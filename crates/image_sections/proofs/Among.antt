-- A place among places, as `contains` tests it; and one place more that is looked at.
use Rattle.std.specs.Prelude.{◌≡◌, refl, true, false, ◌||◌, List, [], ◌∷◌, ◌++◌, ℕ, ◌+◌, ◌<◌, length, take, set, eqb}
use Rattle.std.specs.List.{list_any}
use Rattle.std.proofs.Common.{sym, ◌∙◌, ap, ap₂, arith, add-one, length-append, take-suc-set, eqb→eq}
use Rattle.model.specs.Lists.{has}
use Rattle.laws_order.specs.TestLaws.{same_test, eq→eqb}
use Rattle.image_sections.specs.LogPlaces.{others_below}
use Rattle.image_sections.specs.HeldLaws.{others_skip, others_take, others_length}

turned : (x y : ℕ) → eqb x y ≡ eqb y x
turned x y = same_test (eqb x y) (eqb y x) (λ t. eq→eqb (sym (eqb→eq x y t))) (λ t. eq→eqb (sym (eqb→eq y x t)))

pub among : (s : ℕ) (l : List ℕ) → list_any (λ x. eqb x s) l ≡ has s l
among s [] = refl
among s (x ∷ l) = ap₂ ◌||◌ (turned x s) (among s l)

-- ---- the next place below a count: n others were found below it
module _ (places : List ℕ) (n i : ℕ) (count : n ≡ length (others_below i places)) where
  pub others_few : n < i + 1
  others_few = omega (arith, count, others_length i places)

  pub skip_count : list_any (λ x. eqb x i) places ≡ true → n ≡ length (others_below (i + 1) places)
  skip_count e = count ∙ sym (ap length (others_skip i places (sym (among i places) ∙ e)))

  pub take_count : list_any (λ x. eqb x i) places ≡ false → n + 1 ≡ length (others_below (i + 1) places)
  take_count e = ap (λ (x : ℕ). x + 1) count ∙ sym (ap length (others_take i places (sym (among i places) ∙ e)) ∙ length-append (others_below i places) (i ∷ []))

module _ (places held : List ℕ) (n i : ℕ) (others : take n held ≡ others_below i places) where
  pub skip_others : list_any (λ x. eqb x i) places ≡ true → take n held ≡ others_below (i + 1) places
  skip_others e = others ∙ sym (others_skip i places (sym (among i places) ∙ e))

  pub take_others : list_any (λ x. eqb x i) places ≡ false → n < length held → take (n + 1) (set held n i) ≡ others_below (i + 1) places
  take_others e h =
      ap (λ (k : ℕ). take k (set held n i)) (add-one n) ∙ take-suc-set held n i h ∙ ap (λ (x : List ℕ). x ++ (i ∷ [])) others
      ∙ sym (others_take i places (sym (among i places) ∙ e))

pub ruleset next_place = (others_few, skip_count, take_count, skip_others, take_others)
