-- A message in pieces: the parts of its header, its dependencies' sequences, its commands. Together they are `message_of`.
use Rattle.std.specs.Prelude.{◌≡◌, true, false, Option, Some, None, List, ◌++◌, map, ℕ, ◌*◌, ◌/◌, ◌≤◌, length}
use Rattle.model.specs.Bytes.{bytes, join}
use Rattle.model.specs.Layout.{sequence_size, command_size, message_room}
use Rattle.model.specs.Message.{Message}
use Rattle.model.specs.Compose.{message_of}
use Rattle.model.specs.Calls.{written}
use Rattle.message_sequence.specs.Sequence.{sequence_number}
use Rattle.message_header.specs.declared.header.Header.{Header}
use Rattle.message_header.specs.declared.header.Priority.{Priority}
use Rattle.set_table.specs.Places.{sequence_in}
use Rattle.image_sections.specs.LogPlaces.{TablePlaces}
use Rattle.compose_header.specs.Numbers.{FewParts, counts_bytes, offsets_bytes, order_bytes}

-- ---- the header
abbrev pub header_bytes : ℕ → ℕ → ℕ → ℕ → ℕ → ℕ → ℕ → List ℕ
header_bytes flag s group block priority D C = counts_bytes flag D C ++ offsets_bytes D C ++ bytes sequence_size s ++ order_bytes group block priority

-- with byte 1, block and priority zero where no priority is given
abbrev pub header_with : Header → Option Priority → List ℕ
header_with h None = header_bytes 0 (sequence_number h.sequence) h.group 0 0 h.dependencies h.commands
header_with h (Some p) = header_bytes 1 (sequence_number h.sequence) h.group p.block p.priority h.dependencies h.commands

abbrev pub header_for : Header → List ℕ
header_for h = header_with h h.priority

-- ---- sequences
abbrev pub sequences_bytes : List ℕ → List ℕ
sequences_bytes names = join (map (bytes sequence_size) names)

-- the sequences at places of a table
abbrev pub names_at : List ℕ → List ℕ → List ℕ → List ℕ
names_at pool starts places = map (sequence_in pool starts) places

-- ---- the message of a header, with its dependencies and commands
abbrev pub message_with : Header → Option Priority → List ℕ → List ℕ → Message
message_with h None dependencies commands = message_of false (sequence_number h.sequence) h.group 0 0 dependencies commands
message_with h (Some p) dependencies commands = message_of true (sequence_number h.sequence) h.group p.block p.priority dependencies commands

unfoldable pub message_for : Header → List ℕ → List ℕ → Message
message_for h dependencies commands = message_with h h.priority dependencies commands

-- The header's counts are those of the places and the commands, and the buffer has room.
pub record Writable (buffer : List ℕ) (h : Header) (pool starts places commands : List ℕ) : Type 0 where
  pub room : message_room ≤ length buffer
  pub inside : TablePlaces pool starts places
  pub dependencies_counted : h.dependencies ≡ length places
  pub commands_counted : h.commands ≡ length commands / command_size
  pub eights : length commands ≡ command_size * h.commands
  pub few : FewParts h.dependencies h.commands

pub record Writes (buffer : List ℕ) (h : Header) (pool starts places commands after : List ℕ) (size : ℕ) : Type 0 where
  pub message : after ≡ written (message_for h (names_at pool starts places) commands) buffer
  pub length_is : size ≡ length (message_for h (names_at pool starts places) commands)
