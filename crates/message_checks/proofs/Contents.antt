-- Code 6 by its parts: the group, block and priority, the commands.
use Rattle.std.specs.Prelude.{◌≡◌, false, ◌&&◌, ◌≤◌, ◌<◌, length, drop, refl}
use Rattle.std.proofs.Common.{le-leb}
use Rattle.std.proofs.lemmas.Bool.{lt-leb}
use Rattle.model.specs.Layout.{field_limit}
use Rattle.model.specs.Message.{Message, dependency_count, command_count, total_length, commands_start, group_of, content_right}
use Rattle.message_commands.specs.CommandTests.{commands_right}
use Rattle.message_checks.specs.Content.{priority_right}
use Rattle.message_checks.specs.ContentLaws.{content_is, commands_past}

module _ (m : Message) where
  pub wrong_group : field_limit < group_of m → content_right m ≡ false
  wrong_group h = content_is m (lt-leb _ _ h) refl refl

  pub both_parts : group_of m ≤ field_limit → length m ≡ total_length (dependency_count m) (command_count m)
      → content_right m ≡ priority_right m && commands_right (drop (commands_start (dependency_count m)) m)
  both_parts h l = content_is m (le-leb _ _ h) refl (commands_past m l)

pub ruleset contents = (wrong_group, both_parts)
