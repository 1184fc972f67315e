-- The most bytes of what stands before the commands, and of a message's line.
use Rattle.std.specs.Prelude.{ℕ, ◌+◌}
use Rattle.model.specs.Layout.{characters_size}
use Rattle.program_decimal.specs.Puts.{digits_room}
use Rattle.print_log_commands.specs.Rooms.{commands_room}

abbrev pub sequence_room : ℕ
sequence_room = 1 + characters_size

abbrev pub head_room : ℕ
head_room = digits_room + (1 + digits_room) + (1 + digits_room) + sequence_room

abbrev pub line_room : ℕ
line_room = head_room + commands_room + 1
