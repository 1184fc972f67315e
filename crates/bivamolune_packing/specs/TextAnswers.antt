-- What the reader and the writer of sequences promise in C: the number that they answer, and every byte of the output buffer.
use Rattle.std.specs.Prelude.{◌≡◌, List, ℕ, ◌≤◌, Result, Ok, Err}
use Rattle.model.specs.Layout.{text_room}
use Rattle.model.specs.Calls.{Converted, read_sequences, write_sequences}
use Rattle.refusals.specs.declared.Refusal.{Refusal}
use Rattle.bivamolune_packing.specs.Packing.{packed_length, LengthUnpacks}

-- code + 256 × length, and the header gives the two back
pub record Converts (answer : Converted) (r : ℕ) (exit : List ℕ) : Type 0 where
  pub packed : r ≡ packed_length answer.code answer.size
  pub parts : LengthUnpacks r answer.code answer.size
  pub buffer_after : exit ≡ answer.buffer

abbrev pub ReadsSequences : List ℕ → List ℕ → ℕ → List ℕ → Type 0
ReadsSequences text entry r exit = Converts (read_sequences text entry) r exit

abbrev pub WritesSequences : List ℕ → List ℕ → ℕ → List ℕ → Type 0
WritesSequences sequences entry r exit = Converts (write_sequences sequences entry) r exit

-- what is written is at most 199 bytes long
abbrev pub Short : Result ℕ Refusal → Type 0
Short (Ok size) = size ≤ text_room
Short (Err why) = Unit {0}
