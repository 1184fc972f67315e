-- A delta on the wire: its fields, what it needs, and the conditions of codes 3 to 6.
use Rattle.std.specs.Prelude.{Bool, cond, not, ◌&&◌, List, [], ◌∷◌, ◌++◌, map, ℕ, ◌+◌, ◌*◌, ◌-◌, ◌/◌, ◌%◌, length, drop, eqb, ltb, leb, ℤ}
use Rattle.std.specs.Int.Signed.{le_z}
use Rattle.model.specs.Lists.{has, every, ascending}
use Rattle.model.specs.Bytes.{is_bytes, number, field, parts, integer}
use Rattle.model.specs.Layout.{kind_at, priority_flag_at, dependency_count_at, command_count_at, length_at, dependencies_offset_at, commands_offset_at, first_zeros_at, sequence_at, group_at, block_at, priority_at, last_zeros_at, header_size, sequence_size, numbers_of_line, most_dependencies, command_size, most_commands, field_limit, operation_at, tag_at, command_zeros_at, value_at, tag_count, lowest_value, highest_value}

abbrev pub Message : Type 0
Message = List ℕ

-- ---- the header
abbrev pub has_priority : Message → Bool
has_priority m = eqb (field m priority_flag_at 1) 1

-- D and C
abbrev pub dependency_count : Message → ℕ
dependency_count m = field m dependency_count_at 1

abbrev pub command_count : Message → ℕ
command_count m = field m command_count_at 1

-- where D dependencies end and the commands begin: 40 + 12D
abbrev pub commands_start : ℕ → ℕ
commands_start D = header_size + sequence_size * D

-- T = 40 + 12D + 8C
abbrev pub total_length : ℕ → ℕ → ℕ
total_length D C = commands_start D + command_size * C

abbrev pub sequence_of : Message → ℕ
sequence_of m = field m sequence_at sequence_size

abbrev pub group_of : Message → ℕ
group_of m = field m group_at 4

abbrev pub block_of : Message → ℕ
block_of m = field m block_at 4

abbrev pub priority_of : Message → ℕ
priority_of m = field m priority_at 4

abbrev pub dependencies_of : Message → List ℕ
dependencies_of m = map number (parts (dependency_count m) sequence_size (drop header_size m))

-- the commands, eight bytes each
abbrev pub commands_of : Message → List (List ℕ)
commands_of m = parts (command_count m) command_size (drop (commands_start (dependency_count m)) m)

-- ---- sequences
-- "A line is the first ten bytes of a sequence"; the number is its last two.
abbrev pub line_of : ℕ → ℕ
line_of s = s / numbers_of_line

abbrev pub number_of : ℕ → ℕ
number_of s = s % numbers_of_line

-- "The predecessor is the same line with number one less; number 0001 has none." A list of none or one.
abbrev pub predecessor_of : ℕ → List ℕ
predecessor_of s = cond (ltb 1 (number_of s)) ((s - 1) ∷ []) []

-- "A delta needs its dependencies and its predecessor."
abbrev pub needs_of : Message → List ℕ
needs_of m = predecessor_of (sequence_of m) ++ dependencies_of m

-- ---- what code 3 asks: kind, byte 1, counts, T (also against the bytes handed over), offsets, bytes 10-11 and 36-39
-- (and that it is a list of bytes, as all that a caller can hand over is)
unfoldable pub layout_right : Message → Bool
layout_right m =
    let D = dependency_count m in
    let C = command_count m in
    is_bytes m && eqb (field m kind_at 1) 1 && leb (field m priority_flag_at 1) 1
    && leb D most_dependencies && leb 1 C && leb C most_commands
    && eqb (field m length_at 2) (total_length D C) && eqb (length m) (total_length D C)
    && eqb (field m dependencies_offset_at 2) header_size && eqb (field m commands_offset_at 2) (commands_start D)
    && eqb (field m first_zeros_at 2) 0 && eqb (field m last_zeros_at 4) 0

-- ---- what code 4 asks: no sequence number is 0000
abbrev pub numbered : ℕ → Bool
numbered s = not (eqb (number_of s) 0)

unfoldable pub numbers_right : Message → Bool
numbers_right m = numbered (sequence_of m) && every numbered (dependencies_of m)

-- ---- what code 5 asks: dependencies strictly ascending, none the delta's own or its predecessor
unfoldable pub dependencies_right : Message → Bool
dependencies_right m =
    ascending (dependencies_of m) && not (has (sequence_of m) (dependencies_of m))
    && every (λ p. not (has p (dependencies_of m))) (predecessor_of (sequence_of m))

-- ---- what code 6 asks: group, block and priority, and each command's operation, tag, zeros and value
abbrev pub value_of : List ℕ → ℤ
value_of c = integer (field c value_at 4)

unfoldable pub command_right : List ℕ → Bool
command_right c =
    leb 1 (field c operation_at 1) && leb (field c operation_at 1) 3 && ltb (field c tag_at 1) tag_count
    && eqb (field c command_zeros_at 2) 0 && le_z lowest_value (value_of c) && le_z (value_of c) highest_value

-- "With byte 1 zero, block and priority are zero. With 01, block is at least 1 and priority may be 0."
abbrev pub block_right : Bool → ℕ → ℕ → Bool
block_right flag block priority = cond flag (leb 1 block) (eqb block 0 && eqb priority 0)

unfoldable pub content_right : Message → Bool
content_right m =
    leb (group_of m) field_limit && leb (block_of m) field_limit && leb (priority_of m) field_limit
    && block_right (has_priority m) (block_of m) (priority_of m) && every command_right (commands_of m)

-- "deltas that pass 3 to 6"
unfoldable pub passes : Message → Bool
passes m = layout_right m && numbers_right m && dependencies_right m && content_right m
