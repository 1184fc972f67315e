-- Whether the parts of a text from a place on are right, taken one at a time.
use Rattle.std.specs.Prelude.{◌≡◌, Bool, true, false, ◌&&◌, List, [], ◌∷◌, ◌++◌, ℕ, suc, ◌+◌, ◌*◌, ◌/◌, ◌≤◌, ◌<◌, length, take, drop}
use Rattle.std.proofs.Common.{sym, arith}
use Rattle.model.specs.Lists.{every}
use Rattle.model.specs.Layout.{text_part_size, text_room}
use Rattle.model.specs.Text.{comma, text_parts, text_part_right, text_right}
use Rattle.laws_order.specs.ScanLaws.{every_end}
use Rattle.laws_wire.specs.BytesLaws.{length_parts}
use Rattle.text_checks.specs.FormLaws.{text_wrong, text_sized, part_step}

unfoldable pub right_from : List ℕ → ℕ → Bool
right_from t k = every text_part_right (drop k (text_parts t))

module _ (t : List ℕ) where
  -- the length
  pub right_long : text_room < length t → text_right t ≡ false
  right_long h = sym (text_wrong t (λ x. omega arith))

  pub right_cut : (text_part_size * ((length t + 1) / text_part_size) ≡ length t + 1 → ⊥) → text_right t ≡ false
  right_cut f = sym (text_wrong t (λ x. f (omega arith)))

  pub right_all : length t ≤ text_room → text_part_size * ((length t + 1) / text_part_size) ≡ length t + 1 → text_right t ≡ right_from t 0
  unfolding right_from
  right_all h e = text_sized t h (omega arith)

  -- the parts
  module _ (k : ℕ) where
    module _ (h : k < (length t + 1) / text_part_size) where
      pub right_more : right_from t k ≡ text_part_right (take text_part_size (drop (text_part_size * k) (t ++ comma ∷ []))) && right_from t (k + 1)
      unfolding right_from
      right_more = part_step t k (omega arith)

    pub right_end : (length t + 1) / text_part_size ≤ k → right_from t k ≡ true
    unfolding right_from
    right_end h = every_end text_part_right (text_parts t) k (omega (arith, length_parts (suc (length t) / text_part_size) text_part_size (t ++ comma ∷ [])))

pub ruleset rest = (right_long, right_cut, right_all, right_more, right_end)
