-- What holds while the runner runs.
use Rattle.std.specs.Prelude.{◌≡◌, List, ◌++◌, ℕ, ◌*◌, ◌/◌, ◌≤◌, ℤ, length, take, drop}
use Rattle.model.specs.Layout.{command_size, tag_count}
use Rattle.model.specs.Setpoints.{Change, run_commands, changes_by}
use Rattle.setpoints.specs.Commands.{commands_in}

-- The first k commands are run, which leaves the current values, and their changes are kept: what is left to run on these values
-- leaves what all commands leave, and makes the changes that are still to be kept.
pub record Running (c : List ℕ) (start : List ℤ) (kept : List Change) (current : List ℤ) (k : ℕ) : Type 0 where
  pub inside : k ≤ length c / command_size
  pub size : length current ≡ tag_count
  pub values : run_commands (commands_in c) start ≡ run_commands (commands_in (drop (command_size * k) c)) current
  pub changes : changes_by (commands_in c) start ≡ take k kept ++ changes_by (commands_in (drop (command_size * k) c)) current
