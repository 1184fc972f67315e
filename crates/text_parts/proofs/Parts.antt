-- A part is right exactly if its characters are digits and a comma stands behind them, or is put there.
use Rattle.std.specs.Prelude.{◌≡◌, Bool, true, false, ◌&&◌, List, [], ◌∷◌, ◌++◌, ℕ, ◌+◌, ◌≤◌, eqb, length, take, drop, get_or}
use Rattle.std.proofs.Common.{sym, ◌∙◌, ap₂, arith, refl, eq-eqb, ne_eqb}
use Rattle.model.specs.Lists.{every}
use Rattle.model.specs.Layout.{characters_size, text_part_size}
use Rattle.model.specs.Text.{comma, is_digit, text_part_right}
use Rattle.laws_text.specs.PartLaws.{part_is, comma_put, comma_there}

module _ (t : List ℕ) (at : ℕ) (inside : at + characters_size ≤ length t) where
  abbrev characters : List ℕ
  characters = take characters_size (drop at t)

  abbrev part : List ℕ
  part = take text_part_size (drop at (t ++ comma ∷ []))

  by_answers : {a b : Bool} → every is_digit characters ≡ a → eqb (get_or (t ++ comma ∷ []) (at + characters_size) 0) comma ≡ b
      → text_part_right part ≡ a && b
  by_answers e f = part_is t at inside ∙ ap₂ ◌&&◌ e f

  pub other_characters : every is_digit characters ≡ false → text_part_right part ≡ false
  other_characters e = by_answers e refl

  pub last_part : every is_digit characters ≡ true → at + characters_size ≡ length t
      → text_part_right part ≡ true
  last_part e h = by_answers e (eq-eqb _ comma (comma_put t at inside h))

  module _ (digits : every is_digit characters ≡ true) (more : at + characters_size ≡ length t → ⊥) where
    pub part_before_comma : get_or t (at + characters_size) 0 ≡ comma → text_part_right part ≡ true
    part_before_comma h = by_answers digits (eq-eqb _ comma (comma_there t at inside (omega arith) ∙ h))

    pub part_before_other : (get_or t (at + characters_size) 0 ≡ comma → ⊥) → text_part_right part ≡ false
    part_before_other h = by_answers digits (ne_eqb _ comma (λ f. h (sym (comma_there t at inside (omega arith)) ∙ f)))

pub ruleset parts = (other_characters, last_part, part_before_comma, part_before_other)
