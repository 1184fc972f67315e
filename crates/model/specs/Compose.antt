-- Compose: the message that it writes, as a function of the state.
use Rattle.std.specs.Prelude.{Bool, cond, not, ◌&&◌, List, [], ◌∷◌, ◌++◌, map, ℕ, suc, ◌+◌, ◌*◌, ◌/◌, max, length, eqb, ltb}
use Rattle.model.specs.Lists.{has, some?, keep, greatest}
use Rattle.model.specs.Bytes.{bytes, join}
use Rattle.model.specs.Layout.{header_size, sequence_size, numbers_of_line, command_size}
use Rattle.model.specs.Message.{Message, commands_start, total_length, sequence_of, group_of, line_of, number_of, predecessor_of}
use Rattle.model.specs.Order.{State, sequences_of, needs, effective_block, log_of}

-- A message from its parts, by the table of 'A delta on the wire'.
abbrev pub message_of : Bool → ℕ → ℕ → ℕ → ℕ → List ℕ → List ℕ → Message
message_of flag s group block priority dependencies commands =
    let D = length dependencies in
    let C = length commands / command_size in
    1 ∷ cond flag 1 0 ∷ D ∷ C ∷ bytes 2 (total_length D C) ++ bytes 2 header_size ++ bytes 2 (commands_start D) ++ bytes 2 0
    ++ bytes sequence_size s ++ bytes 4 group ++ bytes 4 block ++ bytes 4 priority ++ bytes 4 0
    ++ join (map (bytes sequence_size) dependencies) ++ commands

-- The number of a sequence that is on a line; 0 of any other.
abbrev pub number_on : ℕ → ℕ → ℕ
number_on line s = cond (eqb (line_of s) line) (number_of s) 0

-- The greatest number on a line among some deltas.
abbrev pub highest_number : ℕ → List Message → ℕ
highest_number line l = greatest (λ m. number_on line (sequence_of m)) l

-- The number of a line's floor; 0 where it has none.
abbrev pub floor_number : State → ℕ → ℕ
floor_number S line = greatest (number_on line) S.origin.floors

-- "Number is one more than the line's greatest in the log, or 0001." "Compose counts floors .. too"
abbrev pub new_number : State → ℕ → ℕ
new_number S line = suc (max (floor_number S line) (highest_number line (log_of S)))

abbrev pub new_sequence : State → ℕ → ℕ
new_sequence S line = line * numbers_of_line + new_number S line

-- "Dependencies are the log deltas that no other log delta needs, less the predecessor": by ascending sequence.
abbrev pub unneeded : State → ℕ → Bool
unneeded S s = has s (sequences_of (log_of S)) && not (some? (λ m. has s (needs S m)) (log_of S))

unfoldable pub new_dependencies : State → ℕ → List ℕ
new_dependencies S s = keep (λ d. unneeded S d && not (has d (predecessor_of s))) (sequences_of S.deltas)

abbrev pub last_sequence : List Message → ℕ
last_sequence [] = 0
last_sequence (m ∷ []) = sequence_of m
last_sequence (m ∷ x ∷ l) = last_sequence (x ∷ l)

-- The highest group of some deltas, and their highest effective block at a station; 0 of none.
abbrev pub highest_group : List Message → ℕ
highest_group l = greatest group_of l

abbrev pub highest_block : State → List Message → ℕ
highest_block S l = greatest (effective_block S) l

-- "Group is 1 on an empty log; the highest in the log plus one if the last delta's sequence is above the new one; else the highest."
-- "Compose counts .. purged group .. too; on a log emptied by purging the group is the greatest purged group plus one"
abbrev pub group_after : ℕ → List Message → ℕ → ℕ
group_after purgedGroup [] s = suc purgedGroup
group_after purgedGroup (m ∷ l) s =
    let highest = max purgedGroup (highest_group (m ∷ l)) in cond (ltb s (last_sequence (m ∷ l))) (suc highest) highest

abbrev pub new_group : State → ℕ → ℕ
new_group S s = group_after S.origin.group (log_of S) s

-- "With priority, block is the highest effective block plus one (1 on an empty log)." "Compose counts .. purged block too"; on a log emptied
-- by purging it is "the greatest purged block plus one"
abbrev pub new_block : State → Bool → ℕ
new_block S flag = cond flag (suc (max S.origin.block (highest_block S (log_of S)))) 0

-- "the message carries the commands, the flag and the priority as handed over"
unfoldable pub composed : State → ℕ → List ℕ → Bool → ℕ → Message
composed S line commands flag priority =
    let s = new_sequence S line in
    message_of flag s (new_group S s) (new_block S flag) priority (new_dependencies S s) commands
