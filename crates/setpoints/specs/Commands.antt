-- What the runner's contracts cite beside the model.
use Rattle.std.specs.Prelude.{List, ℕ, ◌/◌, length}
use Rattle.model.specs.Bytes.{parts}
use Rattle.model.specs.Layout.{command_size}

-- The whole commands in a run of bytes, eight each; a rest of fewer than eight is no command.
abbrev pub commands_in : List ℕ → List (List ℕ)
commands_in c = parts (length c / command_size) command_size c
