-- Codes: for each call its own list of numbers and conditions, in the table's order. The lowest that holds is answered; 0 where none does.
use Rattle.std.specs.Prelude.{Bool, cond, not, ◌&&◌, ◌||◌, List, [], ◌∷◌, ◌++◌, ℕ, ◌*◌, ◌/◌, ◌%◌, length, eqb, ltb, leb}
use Rattle.model.specs.Lists.{has, every, some?, same}
use Rattle.model.specs.Bytes.{is_bytes, number, parts}
use Rattle.model.specs.Layout.{image_size, step_room, message_room, line_size, capacity, tag_count, command_size, most_commands, field_limit, numbers_of_line, most_dependencies, most_floors, sequences_room, text_room}
use Rattle.model.specs.Message.{Message, layout_right, numbers_right, dependencies_right, content_right, command_right, sequence_of, line_of}
use Rattle.model.specs.Order.{State, purged, sequences_of, find, log_of, held_of}
use Rattle.model.specs.Purge.{purge_first}
use Rattle.model.specs.Image.{is_image, state_in, log_count}
use Rattle.model.specs.Compose.{new_number, new_sequence, new_group, new_block, new_dependencies}
use Rattle.model.specs.Text.{text_right, sequences_right, sequence_bytes_in, all_numbered}

abbrev pub Conditions : Type 0
Conditions = List (ℕ × Bool)

-- "The lowest number that applies to the call is answered, and never when its condition fails."
abbrev pub lowest_code : Conditions → ℕ
lowest_code [] = 0
lowest_code (c ∷ l) = cond c.1 c.0 (lowest_code l)

-- ---- 1: the sizes of an image and of a step buffer. 2 is `is_image`.
abbrev pub wrong_size : List ℕ → Bool
wrong_size b = not (eqb (length b) image_size)

abbrev pub small_steps : ℕ → Bool
small_steps room = ltb room step_room

-- ---- 3 to 6, of a message
abbrev pub message_conditions : Message → Conditions
message_conditions m = (3, not (layout_right m)) ∷ (4, not (numbers_right m)) ∷ (5, not (dependencies_right m)) ∷ (6, not (content_right m)) ∷ []

-- ---- 7: "sequence present with other bytes"; 8: "64 present and this sequence new". At or below a floor "7 and 8 are not looked for".
abbrev pub present : State → ℕ → Bool
present S s = has s (sequences_of S.deltas)

abbrev pub conflicts : State → Message → Bool
conflicts S m = not (purged S (sequence_of m)) && present S (sequence_of m) && not (same (find S.deltas (sequence_of m)) m)

abbrev pub full : State → Message → Bool
full S m = not (purged S (sequence_of m)) && leb capacity (length S.deltas) && not (present S (sequence_of m))

abbrev pub deliver_conditions : List ℕ → Message → ℕ → Conditions
deliver_conditions b m room =
    (1, wrong_size b || small_steps room) ∷ (2, not (is_image b)) ∷ message_conditions m
    ++ (7, conflicts (state_in b) m) ∷ (8, full (state_in b) m) ∷ []

-- ---- compose. 3: "commands not 8 to 64 bytes by eights"
abbrev pub commands_sized : List ℕ → Bool
commands_sized c =
    is_bytes c && leb command_size (length c) && leb (length c) (command_size * most_commands) && eqb (length c % command_size) 0

-- 6: the priority (also nonzero without the flag), the flag, and the commands
abbrev pub compose_content : List ℕ → ℕ → ℕ → Bool
compose_content c flag priority =
    leb flag 1 && leb priority field_limit && (eqb flag 1 || eqb priority 0) && every command_right (parts (length c / command_size) command_size c)

-- 9: "the line has a held delta"
abbrev pub held_on : State → ℕ → Bool
held_on S line = some? (λ m. eqb (line_of (sequence_of m)) line) (held_of S)

-- 10: "number, group or block would pass its limit"
abbrev pub past_limit : State → ℕ → Bool → Bool
past_limit S line flag =
    leb numbers_of_line (new_number S line) || ltb field_limit (new_group S (new_sequence S line)) || ltb field_limit (new_block S flag)

-- 11: "over eight dependencies"
abbrev pub many_dependencies : State → ℕ → Bool
many_dependencies S line = ltb most_dependencies (length (new_dependencies S (new_sequence S line)))

abbrev pub compose_conditions : List ℕ → List ℕ → List ℕ → ℕ → ℕ → ℕ → Conditions
compose_conditions b line commands flag priority room =
    let S = state_in b in
    (1, wrong_size b || ltb room message_room || not (is_bytes line && eqb (length line) line_size)) ∷ (2, not (is_image b))
    ∷ (3, not (commands_sized commands)) ∷ (6, not (compose_content commands flag priority))
    ∷ (9, held_on S (number line)) ∷ (10, past_limit S (number line) (eqb flag 1)) ∷ (11, many_dependencies S (number line)) ∷ []

-- ---- empty, log message and setpoint. 12: "log place not below L, or tag above 63"
abbrev pub empty_conditions : List ℕ → Conditions
empty_conditions b = (1, wrong_size b) ∷ []

abbrev pub read_conditions : List ℕ → Conditions
read_conditions b = (1, wrong_size b) ∷ (2, not (is_image b)) ∷ []

abbrev pub log_message_conditions : List ℕ → ℕ → Conditions
log_message_conditions b place = read_conditions b ++ (12, leb (log_count b) place) ∷ []

abbrev pub setpoint_conditions : List ℕ → ℕ → Conditions
setpoint_conditions b tag = read_conditions b ++ (12, leb tag_count tag) ∷ []

-- ---- purge. 15: "if K exceeds L"; 16: "if over 32 floors would result"
abbrev pub exceeds_log : State → ℕ → Bool
exceeds_log S K = ltb (length (log_of S)) K

abbrev pub many_floors : State → ℕ → Bool
many_floors S K = ltb most_floors (length (purge_first K S).origin.floors)

abbrev pub purge_conditions : List ℕ → ℕ → Conditions
purge_conditions b K = read_conditions b ++ (15, exceeds_log (state_in b) K) ∷ (16, many_floors (state_in b) K) ∷ []

-- ---- read sequences and write sequences. 1: "an output buffer under 96 bytes for the reader or 199 for the writer"
abbrev pub read_sequences_conditions : List ℕ → ℕ → Conditions
read_sequences_conditions t room = (1, ltb room sequences_room) ∷ (13, not (text_right t)) ∷ (14, not (all_numbered (sequence_bytes_in t))) ∷ []

abbrev pub write_sequences_conditions : List ℕ → ℕ → Conditions
write_sequences_conditions b room = (1, ltb room text_room) ∷ (13, not (sequences_right b)) ∷ (14, not (all_numbered b)) ∷ []
