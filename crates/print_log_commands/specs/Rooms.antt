-- The most bytes of a value, of a command, and of all commands.
use Rattle.std.specs.Prelude.{ℕ, ◌+◌, ◌*◌}
use Rattle.model.specs.Layout.{most_commands}
use Rattle.program_decimal.specs.Puts.{digits_room}

abbrev pub value_room : ℕ
value_room = 1 + digits_room

abbrev pub command_room : ℕ
command_room = 1 + digits_room + (1 + value_room)

abbrev pub commands_room : ℕ
commands_room = command_room * most_commands
