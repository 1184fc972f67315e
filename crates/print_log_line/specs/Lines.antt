-- What stands before a line's commands: the sequence with the space before it, and all of it.
use Rattle.std.specs.Prelude.{List, ◌∷◌, ◌++◌, ℕ, length, take, drop}
use Rattle.model.specs.Layout.{sequence_at, sequence_size}
use Rattle.model.specs.Message.{Message}
use Rattle.model.specs.Text.{characters_of}
use Rattle.program_decimal.specs.Puts.{numeral}

abbrev pub sequence_field : Message → List ℕ
sequence_field m = 32 ∷ characters_of (take sequence_size (drop sequence_at m))

abbrev pub line_head : ℕ → ℕ → Message → List ℕ
line_head place offset m = numeral place ++ 32 ∷ numeral offset ++ 32 ∷ numeral (length m) ++ sequence_field m
