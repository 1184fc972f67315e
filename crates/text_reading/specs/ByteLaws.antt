-- A byte of a sequence by the two characters of the text that stand for it.
use Rattle.std.specs.Prelude.{◌≡◌, List, ℕ, ◌+◌, ◌*◌, ◌<◌, length, take, drop, get_or}
use Rattle.std.proofs.Common.{◌∙◌, ap, ap₂, subst, arith, length-drop, length-take-le}
use Rattle.model.specs.Layout.{sequence_size, characters_size}
use Rattle.model.specs.Text.{digit_of, is_digit, bytes_in}
use Rattle.laws_order.specs.ListLaws.{get_d_∈, get_d_part}
use Rattle.laws_order.specs.TestLaws.{every_∈}
use Rattle.laws_text.specs.DigitLaws.{digit_small, length_bytes_in, byte_at}
use Rattle.text_reading.specs.Parts.{PartReadable}

module _ {table text : List ℕ} {from : ℕ} {bytes : List ℕ} {at : ℕ} (p : PartReadable table text from bytes at) where
  abbrev characters : List ℕ
  characters = take characters_size (drop from text)

  sized : length characters ≡ characters_size
  sized = length-take-le characters_size (drop from text) (omega (arith, length-drop from text, p.inside))

  pub bytes_sized : length (bytes_in characters) ≡ sequence_size
  bytes_sized = length_bytes_in sequence_size characters sized

  character_is : (i : ℕ) → i < characters_size → get_or characters i 0 ≡ get_or text (from + i) 0
  character_is i h = get_d_part text from characters_size i 0 h

  -- a character there is a digit below 16
  digit_below : (i : ℕ) → i < characters_size → digit_of (get_or text (from + i) 0) < 16
  digit_below i h =
      subst (λ (c : ℕ). digit_of c < 16) (character_is i h)
      (digit_small (get_or characters i 0) (every_∈ is_digit characters p.digits (get_or characters i 0) (get_d_∈ characters i 0 (omega (arith, sized)))))

  pub high_below : (k : ℕ) → k < sequence_size → digit_of (get_or text (from + 2 * k) 0) < 16
  high_below k h = digit_below (2 * k) (omega arith)

  pub low_below : (k : ℕ) → k < sequence_size → digit_of (get_or text (from + 2 * k + 1) 0) < 16
  low_below k h = subst (λ (i : ℕ). digit_of (get_or text i 0) < 16) {x = from + (2 * k + 1)} {y = from + 2 * k + 1} (omega arith) (digit_below (2 * k + 1) (omega arith))

  pub byte_is : (k : ℕ) → k < sequence_size → get_or (bytes_in characters) k 0 ≡ 16 * digit_of (get_or text (from + 2 * k) 0) + digit_of (get_or text (from + 2 * k + 1) 0)
  byte_is k h =
      byte_at sequence_size characters k sized h
      ∙ ap₂ (λ (x y : ℕ). 16 * digit_of x + digit_of y) (character_is (2 * k) (omega arith))
      (character_is (2 * k + 1) (omega arith) ∙ ap (λ (i : ℕ). get_or text i 0) {x = from + (2 * k + 1)} {y = from + 2 * k + 1} (omega arith))
