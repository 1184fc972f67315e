-- The answer of deliver as the definitions have it: its code and counts, beside the buffers afterwards.
use Rattle.std.specs.Prelude.{List, ℕ, Result, Ok, Err}
use Rattle.model.specs.Calls.{Delivered}
use Rattle.refusals.specs.declared.Refusal.{Refusal}
use Rattle.refusals.specs.Refusals.{code_of}
use Rattle.deliver_accepting.specs.declared.Counts.{Counts}

-- a refusal has no undos and no executions
abbrev pub delivered_by : Result Counts Refusal → List ℕ → List ℕ → Delivered
delivered_by (Ok counts) image steps = record { code = 0; undos = counts.undos; executions = counts.executions; image = image; steps = steps }
delivered_by (Err why) image steps = record { code = code_of why; undos = 0; executions = 0; image = image; steps = steps }
