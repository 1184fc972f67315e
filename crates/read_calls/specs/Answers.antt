-- The code of an answer, and the values beside it.
use Rattle.std.specs.Prelude.{ℤ, pos, ℕ, Result, Ok, Err}
use Rattle.model.specs.Calls.{Setpoint}
use Rattle.refusals.specs.declared.Refusal.{Refusal}
use Rattle.refusals.specs.Refusals.{code_of, answer_code}
use Rattle.read_calls.specs.declared.answer.Located.{Located}
use Rattle.read_calls.specs.Parts.{Part}

abbrev pub part_by : Result Located Refusal → Part
part_by (Ok located) = record { code = 0; offset = located.offset; size = located.size }
part_by (Err why) = record { code = code_of why; offset = 0; size = 0 }

abbrev pub lookup_by : Result (Unit {0}) Refusal → ℕ
lookup_by = answer_code

abbrev pub setpoint_by : Result ℤ Refusal → Setpoint
setpoint_by (Ok value) = record { code = 0; value = value }
setpoint_by (Err why) = record { code = code_of why; value = pos 0 }
