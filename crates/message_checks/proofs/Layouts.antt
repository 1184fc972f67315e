-- What the later checks ask for is told by the first.
use Rattle.std.specs.Prelude.{◌≡◌, true, ◌≤◌, length}
use Rattle.std.proofs.Common.{sym, arith}
use Rattle.model.specs.Message.{Message, layout_right, dependency_count, command_count, total_length, commands_start}
use Rattle.message_checks.specs.PassLaws.{sized}

pub dependencies_room : (m : Message) → layout_right m ≡ true → commands_start (dependency_count m) ≤ length m
dependencies_room m e = let s = sized (sym e) in omega arith

pub whole_length : (m : Message) → layout_right m ≡ true → length m ≡ total_length (dependency_count m) (command_count m)
whole_length m e = (sized (sym e)).total

pub ruleset layouts = (dependencies_room, whole_length)
