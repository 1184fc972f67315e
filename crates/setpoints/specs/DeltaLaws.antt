-- A delta that passes 3 to 6 is run by its part past the dependencies: the commands there are its own.
use Rattle.std.specs.Prelude.{◌≡◌, ℕ, ◌+◌, ◌*◌, ◌/◌, T, ℤ, length, drop}
use Rattle.std.proofs.Common.{sym, ◌∙◌, arith, length-drop}
use Rattle.std.proofs.Math.Path.{ap}
use mathlib.Core.List.{List}
use Rattle.std.proofs.Math.ListN.{take}
use Rattle.model.specs.Bytes.{parts}
use Rattle.model.specs.Layout.{command_size}
use Rattle.model.specs.Message.{Message, dependency_count, command_count, commands_start, commands_of, layout_right, passes}
use Rattle.model.specs.Setpoints.{Change, run_commands, changes_by, run_delta, changes_of}
use Rattle.laws_wire.specs.MessageLaws.{layout_sized, passes_layout, passes_sized}
use Rattle.setpoints.specs.Commands.{commands_in}

-- of any message of right layout
pub commands_own : (m : Message) → T (layout_right m) → commands_in (drop (commands_start (dependency_count m)) m) ≡ commands_of m
commands_own m t =
    let start = commands_start (dependency_count m) in
    let e : length m ≡ start + command_size * command_count m = (layout_sized m t).total in
    ap (λ (n : ℕ). parts n command_size (drop start m)) {x = length (drop start m) / command_size} {y = command_count m} (omega (arith, length-drop start m))

module _ (m : Message) (t : T (passes m)) {c : List ℕ} (part : c ≡ drop (commands_start (dependency_count m)) m) where
  pub delta_count : length c / command_size ≡ command_count m
  delta_count = omega (arith, ap length part, length-drop (commands_start (dependency_count m)) m, (passes_sized m t).total)

  delta_commands : commands_in c ≡ commands_of m
  delta_commands = ap commands_in part ∙ commands_own m (passes_layout m t)

  pub delta_run : (values : List ℤ) {r : List ℤ} → r ≡ run_commands (commands_in c) values → r ≡ run_delta m values
  unfolding run_delta
  delta_run values e = e ∙ ap (λ (l : List (List ℕ)). run_commands l values) delta_commands

  pub delta_changes : (values : List ℤ) (kept : List Change) → take (length c / command_size) kept ≡ changes_by (commands_in c) values
      → take (command_count m) kept ≡ changes_of m values
  unfolding changes_of
  delta_changes values kept e = ap (λ (n : ℕ). take n kept) (sym delta_count) ∙ e ∙ ap (λ (l : List (List ℕ)). changes_by l values) delta_commands
