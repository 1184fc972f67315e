-- The steps of either kind.
use Rattle.std.specs.Prelude.{List, ℕ, ℤ}
use Rattle.model.specs.Message.{Message}
use Rattle.model.specs.Steps.{Step, undo, execute, StepRecord, execution_of, undo_of}
use Rattle.step_pairs.specs.declared.kinds.Kind.{Kind}
use Rattle.step_pairs.specs.declared.kinds.Kind.TheVariants.{Undo, Execute}

abbrev pub first_by : Kind → ℕ
first_by Undo = 1
first_by Execute = 2

abbrev pub step_by : Kind → ℕ → Step
step_by Undo s = undo s
step_by Execute s = execute s

-- The record of a delta that finds these values, or had found them.
abbrev pub record_by : Kind → Message → List ℤ → StepRecord
record_by Undo m values = undo_of m values
record_by Execute m values = execution_of m values
