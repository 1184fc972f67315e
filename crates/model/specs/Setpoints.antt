-- Setpoints: a command, a delta's commands, and the 64 values that a log leaves.
use Rattle.std.specs.Prelude.{cond, List, [], ◌∷◌, ℕ, get_or, set, eqb, ℤ, pos, ◌+ℤ◌}
use Rattle.std.specs.Int.Signed.{lt_z}
use Rattle.model.specs.Bytes.{field}
use Rattle.model.specs.Layout.{operation_at, tag_at, lowest_value, highest_value}
use Rattle.model.specs.Message.{Message, commands_of, value_of}
use Rattle.model.specs.Order.{State, log_of}

-- What the log is run from: the base values, which are "all zero at first"
unfoldable pub start_values : State → List ℤ
start_values S = S.origin.base

-- "The sum is stopped at -1000000 and at 1000000": at the low and at the high that `operate` hands over.
unfoldable pub stop : ℤ → ℤ → ℤ → ℤ
stop low high z = cond (lt_z z low) low (cond (lt_z high z) high z)

-- "raises the tag to v if it is lower"
unfoldable pub raise : ℤ → ℤ → ℤ
raise x v = cond (lt_z x v) v x

-- "Operation 1 sets the tag to v; 2 adds v; 3 raises the tag": x is the tag's value.
unfoldable pub operate : ℕ → ℤ → ℤ → ℤ
operate operation x v = cond (eqb operation 1) v (cond (eqb operation 2) (stop lowest_value highest_value (x +ℤ v)) (raise x v))

-- A command's change, a term of ours: its tag, and the tag's value before and after. ("Running a command must therefore also give the
-- value from before.")
pub record Change : Type 0 where
  pub tag : ℕ
  pub before : ℤ
  pub after : ℤ

unfoldable pub change_of : List ℕ → List ℤ → Change
change_of c values =
    let tag = field c tag_at 1 in
    let before = get_or values tag (pos 0) in
    record { tag = tag; before = before; after = operate (field c operation_at 1) before (value_of c) }

unfoldable pub apply : Change → List ℤ → List ℤ
apply change values = set values change.tag change.after

unfoldable pub run_command : List ℕ → List ℤ → List ℤ
run_command c values = apply (change_of c values) values

abbrev pub run_commands : List (List ℕ) → List ℤ → List ℤ
run_commands [] values = values
run_commands (c ∷ l) values = run_commands l (run_command c values)

-- The changes that commands make, one after the other.
abbrev pub changes_by : List (List ℕ) → List ℤ → List Change
changes_by [] values = []
changes_by (c ∷ l) values = change_of c values ∷ changes_by l (run_command c values)

-- "The commands that start past the dependencies are run on 64 setpoints"
unfoldable pub run_delta : Message → List ℤ → List ℤ
run_delta m values = run_commands (commands_of m) values

-- A delta's changes, where it finds these values.
unfoldable pub changes_of : Message → List ℤ → List Change
changes_of m values = changes_by (commands_of m) values

abbrev pub run_log : List Message → List ℤ → List ℤ
run_log [] values = values
run_log (m ∷ l) values = run_log l (run_delta m values)

unfoldable pub setpoints_of : State → List ℤ
setpoints_of S = run_log (log_of S) (start_values S)
