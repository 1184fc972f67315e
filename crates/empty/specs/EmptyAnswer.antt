-- The answer of empty as the definitions have it: its code, beside the image afterwards.
use Rattle.std.specs.Prelude.{List, ℕ, Result}
use Rattle.model.specs.Calls.{Emptied}
use Rattle.refusals.specs.declared.Refusal.{Refusal}
use Rattle.refusals.specs.Refusals.{answer_code}

abbrev pub emptied_by : Result (Unit {0}) Refusal → List ℕ → Emptied
emptied_by answer image = record { code = answer_code answer; image = image }
