-- `layout_right` in the two parts in which the code takes it.
use Rattle.std.specs.Prelude.{Bool, ◌&&◌, length, eqb, leb}
use Rattle.model.specs.Bytes.{field}
use Rattle.model.specs.Layout.{kind_at, priority_flag_at, most_dependencies, most_commands, length_at, dependencies_offset_at, commands_offset_at, first_zeros_at, last_zeros_at, header_size}
use Rattle.model.specs.Message.{Message, dependency_count, command_count, total_length, commands_start}

-- kind, byte 1 and the counts; then length, offsets and zeros
unfoldable pub counts_right : Message → Bool
counts_right m =
    eqb (field m kind_at 1) 1 && leb (field m priority_flag_at 1) 1
    && leb (dependency_count m) most_dependencies && leb 1 (command_count m) && leb (command_count m) most_commands

unfoldable pub offsets_right : Message → Bool
offsets_right m =
    let D = dependency_count m in
    let C = command_count m in
    eqb (field m length_at 2) (total_length D C) && eqb (length m) (total_length D C)
    && eqb (field m dependencies_offset_at 2) header_size && eqb (field m commands_offset_at 2) (commands_start D)
    && eqb (field m first_zeros_at 2) 0 && eqb (field m last_zeros_at 4) 0
