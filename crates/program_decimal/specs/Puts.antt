-- A number as text, and a text written from a place of a buffer on.
use Rattle.std.specs.Prelude.{◌≡◌, List, ℕ, ◌+◌, ◌≤◌, length}
use Rattle.std.proofs.Math.Seq.{paste}
use Rattle.model.specs.Program.{decimal}

-- the most digits of a number
abbrev pub digits_room : ℕ
digits_room = 7

-- A number in decimal, under a name that stays shut.
unfoldable pub numeral : ℕ → List ℕ
numeral x = decimal x

-- A text of at most `most` bytes stands in the buffer from `at` on, the rest of the buffer is as it was; `r` is the place behind it.
pub record Puts (entry : List ℕ) (at most : ℕ) (text : List ℕ) (r : ℕ) (exit : List ℕ) : Type 0 where
  pub few : length text ≤ most
  pub end : r ≡ at + length text
  pub bytes : exit ≡ paste entry at text (length text)
