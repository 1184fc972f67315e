-- The offsets, sizes and limits of document 01 and of Papers 1, 2 and 4 of document 02, in bytes unless said otherwise.
use Rattle.std.specs.Prelude.{List, [], ◌∷◌, ℕ, ◌+◌, ◌*◌, ◌-◌, ℤ, pos, negsuc}

-- ---- a delta on the wire: the header's fields
abbrev pub kind_at : ℕ
kind_at = 0

abbrev pub priority_flag_at : ℕ
priority_flag_at = 1

abbrev pub dependency_count_at : ℕ
dependency_count_at = 2

abbrev pub command_count_at : ℕ
command_count_at = 3

abbrev pub length_at : ℕ
length_at = 4

abbrev pub dependencies_offset_at : ℕ
dependencies_offset_at = 6

abbrev pub commands_offset_at : ℕ
commands_offset_at = 8

-- bytes 10-11, zero
abbrev pub first_zeros_at : ℕ
first_zeros_at = 10

abbrev pub sequence_at : ℕ
sequence_at = 12

abbrev pub group_at : ℕ
group_at = 24

abbrev pub block_at : ℕ
block_at = 28

abbrev pub priority_at : ℕ
priority_at = 32

-- bytes 36-39, zero
abbrev pub last_zeros_at : ℕ
last_zeros_at = 36

abbrev pub header_size : ℕ
header_size = 40

abbrev pub sequence_size : ℕ
sequence_size = 12

abbrev pub line_size : ℕ
line_size = 10

-- how many numbers a line has, 0000 among them: a sequence is line × 65536 + number
abbrev pub numbers_of_line : ℕ
numbers_of_line = 65536

abbrev pub most_dependencies : ℕ
most_dependencies = 8

abbrev pub command_size : ℕ
command_size = 8

abbrev pub most_commands : ℕ
most_commands = 8

-- group, block and priority
abbrev pub field_limit : ℕ
field_limit = 2147483647

-- ---- a command
abbrev pub operation_at : ℕ
operation_at = 0

abbrev pub tag_at : ℕ
tag_at = 1

abbrev pub command_zeros_at : ℕ
command_zeros_at = 2

abbrev pub value_at : ℕ
value_at = 4

-- of a value, in a command, in an image and in a step's pair
abbrev pub value_size : ℕ
value_size = 4

abbrev pub tag_count : ℕ
tag_count = 64

-- of all tags' values
abbrev pub values_size : ℕ
values_size = value_size * tag_count

abbrev pub lowest_value : ℤ
lowest_value = negsuc 999999

abbrev pub highest_value : ℤ
highest_value = pos 1000000

-- ---- the station image
abbrev pub image_size : ℕ
image_size = 16384

abbrev pub log_count_at : ℕ
log_count_at = 0

abbrev pub held_count_at : ℕ
held_count_at = 2

abbrev pub setpoints_offset_at : ℕ
setpoints_offset_at = 4

abbrev pub messages_offset_at : ℕ
messages_offset_at = 6

-- how many bytes are used
abbrev pub used_at : ℕ
used_at = 8

-- how many floors there are, and where floors and base values start
abbrev pub floor_count_at : ℕ
floor_count_at = 10

abbrev pub floors_offset_at : ℕ
floors_offset_at = 12

abbrev pub base_offset_at : ℕ
base_offset_at = 14

-- the greatest purged effective block, and the greatest purged group
abbrev pub purged_block_at : ℕ
purged_block_at = 16

abbrev pub purged_group_at : ℕ
purged_group_at = 20

-- bytes 24-31, zero
abbrev pub zeros_at : ℕ
zeros_at = 24

-- "Setpoints start at 32, base values at 288, floors at 544, messages after them": by `Image.messages_start` of a state, and
-- `messages_start_in` of a buffer
abbrev pub setpoints_start : ℕ
setpoints_start = 32

abbrev pub base_start : ℕ
base_start = setpoints_start + values_size

abbrev pub floors_start : ℕ
floors_start = base_start + values_size

-- "at most 32"
abbrev pub most_floors : ℕ
most_floors = 32

-- the header's fields, each by its place and its size
abbrev pub image_fields : List (ℕ × ℕ)
image_fields =
    (log_count_at, 2) ∷ (held_count_at, 2) ∷ (setpoints_offset_at, 2) ∷ (messages_offset_at, 2) ∷ (used_at, 2) ∷ (floor_count_at, 2) ∷ (floors_offset_at, 2)
    ∷ (base_offset_at, 2) ∷ (purged_block_at, 4) ∷ (purged_group_at, 4) ∷ (zeros_at, setpoints_start - zeros_at) ∷ []

-- the most deltas that an image holds
abbrev pub capacity : ℕ
capacity = 64

-- ---- steps, and what compose writes to
-- how many pairs a step has, in bytes 1-3
abbrev pub pair_count_at : ℕ
pair_count_at = 1

abbrev pub pair_count_size : ℕ
pair_count_size = 3

-- where a step's sequence stands
abbrev pub step_sequence_at : ℕ
step_sequence_at = 4

-- where its pairs start
abbrev pub pairs_at : ℕ
pairs_at = 16

-- of a pair: tag and value, four bytes each
abbrev pub pair_tag_size : ℕ
pair_tag_size = 4

abbrev pub pair_size : ℕ
pair_size = pair_tag_size + value_size

-- of all pairs that a step has room for, one a command
abbrev pub pairs_size : ℕ
pairs_size = pair_size * most_commands

abbrev pub step_size : ℕ
step_size = pairs_at + pairs_size

-- the most steps of a delivery: 63 undos, since the old log lacks the new delta, and 64 executions
abbrev pub most_steps : ℕ
most_steps = (capacity - 1) + capacity

-- "The step buffer becomes at least 10,160 bytes"
abbrev pub step_room : ℕ
step_room = step_size * most_steps

abbrev pub message_room : ℕ
message_room = 200

-- ---- sequences as text: "1 to 8 sequences", "24 characters", "joined by commas"
abbrev pub most_sequences : ℕ
most_sequences = 8

-- of a sequence's text, two characters a byte
abbrev pub characters_size : ℕ
characters_size = 2 * sequence_size

-- of a part of a text: a sequence's characters and a comma
abbrev pub text_part_size : ℕ
text_part_size = characters_size + 1

-- of eight sequences, "96 bytes": the reader's output buffer has that many at least, the writer's input at most
abbrev pub sequences_room : ℕ
sequences_room = sequence_size * most_sequences

-- of their text, "199", without a comma behind the last: the writer's output buffer has that many at least, the reader's text at most
abbrev pub text_room : ℕ
text_room = text_part_size * most_sequences - 1

-- ---- the listing program: how much it reads, and the lengths of a cut
abbrev pub input_limit : ℕ
input_limit = 60000

abbrev pub shortest_cut : ℕ
shortest_cut = 48

abbrev pub longest_cut : ℕ
longest_cut = 200
