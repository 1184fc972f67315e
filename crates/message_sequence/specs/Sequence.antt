-- What a sequence of two numbers stands for.
use Rattle.std.specs.Prelude.{List, [], ◌∷◌, ℕ, Option, Some, None, ◌+◌, ◌*◌, ◌/◌, ◌%◌}
use Rattle.message_sequence.specs.declared.Sequence.{Sequence}

-- the number of its twelve bytes: 2 ^ 32 of the high part, and the low part
abbrev pub sequence_number : Sequence → ℕ
sequence_number s = s.high * 4294967296 + s.low

-- the sequence of a number
abbrev pub sequence_from : ℕ → Sequence
sequence_from n = record { high = n / 4294967296; low = n % 4294967296 }

-- none or one
abbrev pub predecessor_list : Option Sequence → List ℕ
predecessor_list (Some s) = sequence_number s ∷ []
predecessor_list None = []
