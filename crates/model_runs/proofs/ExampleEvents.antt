-- Calls with answers written by hand, and the records that their step buffers begin with.
use mathlib.Core.Option.{Option, none, some}
use mathlib.Core.List.{List, [], ◌∷◌}
use Prim.Native.Nat.{ℕ}
use lib.ListN.{replicate}
use lib.IntN.{pos, negsuc}
use Rattle.model.specs.Bytes.{word}
use Rattle.model.specs.Layout.{image_size, step_room}
use Rattle.model.specs.Message.{Message}
use Rattle.model.specs.Image.{image_of}
use Rattle.model.specs.Steps.{execute, Pair, StepRecord, records_bytes}
use Rattle.model.specs.Calls.{written}
use Rattle.model_runs.specs.Run.{Given, delivery, Event}
use Rattle.model.proofs.ExampleMessages.{A, B, a1, b1, holding}
use Rattle.model.proofs.RecordExamples.{setting}

-- what empty was given
abbrev pub given : Given
given = record { buffer = replicate image_size 0xEE }

-- a step buffer as lent
abbrev pub lent : List ℕ
lent = replicate step_room 0xEE

-- the image of these deltas, in whichever order
abbrev pub image : List Message → List ℕ
image l = image_of (holding l)

-- A message; code, undos and executions; the records that stand at the front of the step buffer, and the image, both as the call left them.
abbrev pub event : Message → ℕ → ℕ → ℕ → List StepRecord → List ℕ → Event
event m code undos executions records left = record {
  call = delivery m lent;
  answer = record { code = code; undos = undos; executions = executions; image = left; steps = written (records_bytes records) lent };
}

-- the image that empty wrote
abbrev pub start : List ℕ
start = image []

-- A1 on it, and B1, taken in rightly
abbrev pub first_a1 : Event
first_a1 = event a1 0 0 1 (setting (execute (A 1)) (pos 1500) ∷ []) (image (a1 ∷ []))

abbrev pub first_b1 : Event
first_b1 = event b1 0 0 1 (setting (execute (B 1)) (negsuc 19) ∷ []) (image (b1 ∷ []))

-- the word of the first value of the first record that was read
abbrev first_pair : List Pair → ℕ
first_pair [] = 0
first_pair (p ∷ l) = word p.value

abbrev pub first_value : Option (List StepRecord) → ℕ
first_value none = 0
first_value (some []) = 0
first_value (some (r ∷ l)) = first_pair r.pairs
