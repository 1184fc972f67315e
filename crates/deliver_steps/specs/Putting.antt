-- What holds while the records of a log are written.
use Rattle.std.specs.Prelude.{◌≡◌, List, ℕ, ◌+◌, ◌*◌, ◌-◌, ◌≤◌, ℤ, length, drop}
use Rattle.model.specs.Layout.{step_size}
use Rattle.model.specs.Message.{Message}
use Rattle.model.specs.Steps.{StepRecord, along}
use Rattle.set_table.specs.Table.{deltas_of, deltas_at}
use Rattle.step_pairs.specs.declared.kinds.Kind.{Kind}
use Rattle.step_pairs.specs.declared.kinds.Kind.TheVariants.{Undo, Execute}
use Rattle.step_pairs.specs.Kinds.{listed_by}
use Rattle.step_records.specs.Records.{record_by}
use Rattle.deliver_steps.specs.Room.{records_at}

-- Where the records are written that follow the first k: executions behind those, undos before them.
abbrev pub rest_at : Kind → ℕ → ℕ → ℕ
rest_at Undo at k = at
rest_at Execute at k = at + step_size * k

-- The records of a log's deltas from a place on, by the values that they find.
abbrev pub records_from : Kind → List Message → ℕ → List ℤ → List StepRecord
records_from kind l i values = listed_by kind (along (record_by kind) (drop i l) values)

-- The log is run up to the place i, which leaves the current values, and its records are written: with those of the deltas from i
-- on all of them are.
pub record Putting (kind : Kind) (pool starts log : List ℕ) (kept at : ℕ) (values : List ℤ) (entry : List ℕ) (i : ℕ) (current : List ℤ) (steps : List ℕ) : Type 0 where
  pub behind : kept ≤ i
  pub inside : i ≤ length log
  pub size : length steps ≡ length entry
  pub records : let l = deltas_at (deltas_of pool starts) log in
      records_at steps (rest_at kind at (i - kept)) (records_from kind l i current) ≡ records_at entry at (records_from kind l kept values)
