-- The definitions' tests of commands in the parts in which the code takes them.
use Rattle.std.specs.Prelude.{Bool, ◌&&◌, List, ℕ, ◌/◌, length}
use Rattle.std.specs.Int.Signed.{le_z}
use Rattle.model.specs.Lists.{every}
use Rattle.model.specs.Bytes.{parts, integer}
use Rattle.model.specs.Layout.{command_size, lowest_value, highest_value}
use Rattle.model.specs.Message.{command_right}

-- of `command_right`: the value, as the number of its four bytes
unfoldable pub value_right : ℕ → Bool
value_right n = le_z lowest_value (integer n) && le_z (integer n) highest_value

-- every whole command of any bytes
abbrev pub commands_right : List ℕ → Bool
commands_right b = every command_right (parts (length b / command_size) command_size b)
