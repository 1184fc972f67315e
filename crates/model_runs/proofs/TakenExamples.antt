-- "The steps of a call are the records at the front of its step buffer: as many undos as its answer counts, then as many executions"
use mathlib.Core.Path.{◌≡◌, refl, ◌∙◌, ap}
use mathlib.Core.Option.{Option, some, none}
use mathlib.Core.List.{List, [], ◌∷◌, ◌++◌, map}
use Prim.Native.Nat.{ℕ, suc}
use native.Mathlib.Omega.{arith}
use lib.ListN.{length}
use lib.IntN.{pos}
use Rattle.model.specs.Steps.{Step, undo, execute, record_bytes, read_record}
use Rattle.model_runs.specs.Run.{Event, StepsTaken}
use Rattle.model.proofs.ExampleMessages.{A, B, a1, b1, a1_value}
use Rattle.model.proofs.RecordExamples.{setting}
use Rattle.model_runs.proofs.ExampleEvents.{image, event}

-- A1 after B1: undo B1, execute A1, B1. The answer counts so many undos and executions.
abbrev counting : ℕ → ℕ → Event
counting undos executions =
    event a1 0 undos executions (setting (undo (B 1)) (pos 0) ∷ setting (execute (A 1)) (pos 1500) ∷ setting (execute (B 1)) (pos 1480) ∷ []) (image (a1 ∷ b1 ∷ []))

counted : StepsTaken (counting 1 2) (B 1 ∷ []) (A 1 ∷ B 1 ∷ [])
unfolding read_record record_bytes
counted = record { read = refl; undos = refl; executions = refl }

-- "a refused call has none", whatever stands in its buffer
refused : StepsTaken (event (a1_value 2) 7 0 0 (setting (execute (A 1)) (pos 1500) ∷ []) (image (a1 ∷ []))) [] []
refused = record { read = refl; undos = refl; executions = refl }

-- how many of some steps are undos
abbrev undos_among : List Step → ℕ
undos_among [] = 0
undos_among (undo s ∷ l) = suc (undos_among l)
undos_among (execute s ∷ l) = undos_among l

abbrev undos_read : Option (List Step) → ℕ
undos_read none = 0
undos_read (some l) = undos_among l

executions_alone : (executed : List ℕ) → undos_among (map execute executed) ≡ 0
executions_alone [] = refl
executions_alone (s ∷ executed) = executions_alone executed

undos_first : (undone executed : List ℕ) → undos_among (map undo undone ++ map execute executed) ≡ length undone
undos_first [] executed = executions_alone executed
undos_first (s ∷ undone) executed = ap suc (undos_first undone executed)

-- honest steps, but counts that are not theirs: two undos and an execution, or as many steps and no undo
counted_freely : (undone executed : List ℕ) → StepsTaken (counting 2 1) undone executed → ⊥
unfolding read_record record_bytes
counted_freely undone executed taken =
    let one : 1 ≡ length undone = ap undos_read taken.read ∙ undos_first undone executed in
    let two : length undone ≡ 2 = taken.undos in
    omega arith

none_counted : (undone executed : List ℕ) → StepsTaken (counting 0 3) undone executed → ⊥
unfolding read_record record_bytes
none_counted undone executed taken =
    let one : 1 ≡ length undone = ap undos_read taken.read ∙ undos_first undone executed in
    let none : length undone ≡ 0 = taken.undos in
    omega arith
