-- The answer as the definitions have it: Paper 2's number and length for each case, beside the output buffer afterwards.
use Rattle.std.specs.Prelude.{◌≡◌, refl, List, ℕ, Result, Ok, Err}
use Rattle.model.specs.Calls.{Converted}
use Rattle.refusals.specs.declared.Refusal.{Refusal}
use Rattle.refusals.specs.Refusals.{code_of}

abbrev pub converted_by : Result ℕ Refusal → List ℕ → Converted
converted_by (Ok size) buffer = record { code = 0; size = size; buffer = buffer }
-- a refusal: its number, and no length
converted_by (Err why) buffer = record { code = code_of why; size = 0; buffer = buffer }

-- whatever is answered, the buffer is the one that was left
pub buffer_is : (c : Result ℕ Refusal) (buffer : List ℕ) → buffer ≡ (converted_by c buffer).buffer
buffer_is (Ok size) buffer = refl
buffer_is (Err why) buffer = refl
