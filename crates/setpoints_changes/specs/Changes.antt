-- A change as the code holds it, as a struct.
use Rattle.model.specs.Setpoints as model
use Rattle.setpoints_changes.specs.declared.Change.{Change}

-- The definitions' record of a change that the code's struct holds.
abbrev pub change_in : Change → model.Change
change_in change = record { tag = change.tag; before = change.before; after = change.after }
