-- The header of a message, and what it says of it.
use Rattle.std.specs.Prelude.{◌≡◌, cond, Option, Some, None}
use Rattle.model.specs.Message.{Message, has_priority, dependency_count, command_count, sequence_of, group_of, block_of, priority_of}
use Rattle.message_header.specs.declared.header.Header.{Header}
use Rattle.message_header.specs.declared.header.Priority.{Priority}
use Rattle.message_sequence.specs.Sequence.{sequence_number, sequence_from}

abbrev pub priority_in : Message → Option Priority
priority_in m = cond (has_priority m) (Some (record { block = block_of m; priority = priority_of m })) None

unfoldable pub header_of : Message → Header
header_of m = record {
  sequence = sequence_from (sequence_of m);
  group = group_of m;
  dependencies = dependency_count m;
  commands = command_count m;
  priority = priority_in m;
}

-- each field is what the definitions read in the message
pub record Describes (m : Message) (h : Header) : Type 0 where
  pub sequence : sequence_number h.sequence ≡ sequence_of m
  pub group : h.group ≡ group_of m
  pub dependencies : h.dependencies ≡ dependency_count m
  pub commands : h.commands ≡ command_count m
  pub priority : h.priority ≡ priority_in m
