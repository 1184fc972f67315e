-- Answers that are a length, as one number.
use Rattle.std.specs.Prelude.{ℕ, ◌≤◌, Result, Ok, Err}
use Rattle.model.specs.Layout.{message_room}
use Rattle.refusals.specs.declared.Refusal.{Refusal}
use Rattle.refusals.specs.Refusals.{code_of}
use Rattle.bivamolune_packing.specs.Packing.{packed_length}

abbrev pub number_by : Result ℕ Refusal → ℕ
number_by (Ok size) = packed_length 0 size
number_by (Err why) = code_of why

-- what is written is at most 200 bytes long: a message. A text is shorter (`TextAnswers.Short`)
abbrev pub Short : Result ℕ Refusal → Type 0
Short (Ok size) = size ≤ message_room
Short (Err why) = Unit {0}
