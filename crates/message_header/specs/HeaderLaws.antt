-- The header of a message describes it, whatever its bytes.
use Rattle.std.specs.Prelude.{◌≡◌, Option, refl, ℕ}
use Rattle.model.specs.Message.{Message, sequence_of, group_of, dependency_count, command_count}
use Rattle.message_sequence.specs.declared.Sequence.{Sequence}
use Rattle.message_header.specs.declared.header.Header.{Header}
use Rattle.message_header.specs.declared.header.Priority.{Priority}
use Rattle.message_sequence.specs.Sequence.{sequence_from}
use Rattle.message_header.specs.Header.{priority_in, header_of, Describes}
use Rattle.message_sequence.specs.SequenceLaws.{number_from}

pub header_describes : (m : Message) → Describes m (header_of m)
unfolding header_of
header_describes m = record {
  sequence = number_from (sequence_of m);
  group = refl;
  dependencies = refl;
  commands = refl;
  priority = refl;
}

-- a header is a message's where each of its fields is
pub header_is : (m : Message) {s : Sequence} {g d c : ℕ} {p : Option Priority} → s ≡ sequence_from (sequence_of m) → g ≡ group_of m → d ≡ dependency_count m → c ≡ command_count m → p ≡ priority_in m
    → ◌≡◌ {A = Header} (record { sequence = s; group = g; dependencies = d; commands = c; priority = p }) (header_of m)
unfolding header_of
header_is m s g d c p = cc
