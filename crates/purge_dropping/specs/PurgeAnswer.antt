-- The answer of purge as the definitions have it: its code, beside the image afterwards.
use Rattle.std.specs.Prelude.{List, ℕ, Result}
use Rattle.model.specs.Calls.{Purged}
use Rattle.refusals.specs.declared.Refusal.{Refusal}
use Rattle.refusals.specs.Refusals.{answer_code}

abbrev pub purged_by : Result (Unit {0}) Refusal → List ℕ → Purged
purged_by answer image = record { code = answer_code answer; image = image }
