-- What reading the parts of a text asks, and what it leaves.
use Rattle.std.specs.Prelude.{◌≡◌, List, ℕ, ◌+◌, ◌≤◌, T, length, take, drop}
use Rattle.std.proofs.Math.Seq.{paste}
use Rattle.model.specs.Lists.{every}
use Rattle.model.specs.Layout.{sequence_size, characters_size, sequences_room}
use Rattle.model.specs.Text.{is_digit, sequence_bytes_in, text_right}
use Rattle.text_digits.specs.DigitTable.{HasDigits}

-- one sequence, by the table of digits: its characters are digits, and there is room for its bytes
pub record PartReadable (table text : List ℕ) (from : ℕ) (bytes : List ℕ) (at : ℕ) : Type 0 where
  pub table_right : HasDigits table
  pub inside : from + characters_size ≤ length text
  pub digits : T (every is_digit (take characters_size (drop from text)))
  pub room : at + sequence_size ≤ length bytes

-- all of a right text
pub record TextReadable (text bytes : List ℕ) : Type 0 where
  pub formed : T (text_right text)
  pub room : sequences_room ≤ length bytes

pub record TextRead (text bytes : List ℕ) (size : ℕ) (exit : List ℕ) : Type 0 where
  pub sized : size ≡ length (sequence_bytes_in text)
  pub read : exit ≡ paste bytes 0 (sequence_bytes_in text) size
