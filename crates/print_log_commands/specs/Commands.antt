-- How far the commands are printed.
use Rattle.std.specs.Prelude.{◌≡◌, List, ℕ, ◌+◌, ◌*◌, ◌-◌, ◌/◌, ◌≤◌, length, drop}
use Rattle.model.specs.Layout.{command_size}
use Rattle.model.specs.Program.{printed_commands}
use Rattle.setpoints.specs.Commands.{commands_in}
use Rattle.program_decimal.specs.Ahead.{Ahead}
use Rattle.print_log_commands.specs.Rooms.{command_room, commands_room}

-- The first k commands stand before `next`: with the others behind them, that is all.
pub record Putting (commands entry : List ℕ) (at : ℕ) (out : List ℕ) (next k : ℕ) : Type 0 where
  pub room : next + command_room * (length commands / command_size - k) ≤ at + commands_room
  pub size : length out ≡ length entry
  pub ahead : Ahead (printed_commands (commands_in commands)) entry at out next (printed_commands (commands_in (drop (command_size * k) commands)))
