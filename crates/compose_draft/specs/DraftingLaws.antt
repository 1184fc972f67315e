-- Which limit is passed, and that none is.
use Rattle.std.specs.Prelude.{◌≡◌, Bool, true, false, ◌||◌, ℕ, ◌+◌, ◌*◌, ◌≤◌, ◌<◌, T, ltb, leb}
use Rattle.std.proofs.Common.{sym, ◌∙◌, ap, ap₂, arith, lt→ltb, le→leb, le-ltb}
use Rattle.std.proofs.lemmas.Bool.{lt-leb}
use Rattle.model.specs.Layout.{numbers_of_line, field_limit}
use Rattle.model.specs.Message.{line_of, number_of}
use Rattle.model.specs.Order.{State}
use Rattle.model.specs.Compose.{new_number, new_sequence, new_group, new_block}
use Rattle.model.specs.Codes.{past_limit}
use Rattle.laws_order.specs.TestLaws.{or_l, or_r, is_true}
use Rattle.message_sequence.specs.declared.Sequence.{Sequence}
use Rattle.message_sequence.specs.Sequence.{sequence_number}

-- a number on a line that begins with 0000
pub numbered : (line : Sequence) (n : ℕ) → number_of (sequence_number line) ≡ 0
    → sequence_number (record { high = line.high; low = line.low + n }) ≡ line_of (sequence_number line) * numbers_of_line + n
numbered line n e = omega arith

module _ (S : State) (line : ℕ) (flag : Bool) {n b g : ℕ} (is_number : n ≡ new_number S line) (is_Block : b ≡ new_block S flag) (is-group : g ≡ new_group S (new_sequence S line)) where
  by_tests : leb numbers_of_line n || ltb field_limit g || ltb field_limit b ≡ past_limit S line flag
  by_tests =
      ap₂ (λ (x y : ℕ). leb numbers_of_line x || ltb field_limit y || ltb field_limit b) is_number is-group
      ∙ ap (λ (x : ℕ). leb numbers_of_line (new_number S line) || ltb field_limit (new_group S (new_sequence S line)) || ltb field_limit x) is_Block

  past : T (leb numbers_of_line n || ltb field_limit g || ltb field_limit b) → past_limit S line flag ≡ true
  past t = sym by_tests ∙ is_true _ t

  pub past_number : numbers_of_line ≤ n → past_limit S line flag ≡ true
  past_number h = past (or_l (leb numbers_of_line n || ltb field_limit g) (ltb field_limit b) (or_l (leb numbers_of_line n) (ltb field_limit g) (le→leb numbers_of_line n h)))

  pub past_block : field_limit < b → past_limit S line flag ≡ true
  past_block h = past (or_r (leb numbers_of_line n || ltb field_limit g) (ltb field_limit b) (lt→ltb field_limit b h))

  pub past_group : field_limit < g → past_limit S line flag ≡ true
  past_group h = past (or_l (leb numbers_of_line n || ltb field_limit g) (ltb field_limit b) (or_r (leb numbers_of_line n) (ltb field_limit g) (lt→ltb field_limit g h)))

  pub past_none : n < numbers_of_line → b ≤ field_limit → g ≤ field_limit → past_limit S line flag ≡ false
  past_none p q r = sym by_tests ∙ ap₂ (λ (x y : Bool). x || y || ltb field_limit b) (lt-leb numbers_of_line n p) (le-ltb field_limit g r) ∙ le-ltb field_limit b q
