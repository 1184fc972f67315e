-- Floors: what is at or below one, what such a need and such a delivery count for, what the log starts from, and what compose counts
-- (document 02, Paper 4).
use mathlib.Core.Path.{◌≡◌, refl}
use mathlib.Core.Bool.{Bool, true, false}
use mathlib.Core.List.{List, [], ◌∷◌, ◌++◌, map}
use Prim.Native.Nat.{ℕ, ◌+◌, ◌*◌, ◌-◌}
use lib.ListN.{get_or, set, replicate}
use lib.IntN.{ℤ, pos, negsuc}
use Rattle.model.specs.Layout.{field_limit}
use Rattle.model.specs.Message.{Message}
use Rattle.model.specs.Tops.{covered}
use Rattle.model.specs.Order.{Origin, State, take_in, sequences_of, needs, executables_of, log_of, held_of, effective_block}
use Rattle.model.specs.Setpoints.{start_values, stop, raise, operate, change_of, apply, run_command, run_delta, changes_of, setpoints_of}
use Rattle.model.specs.Steps.{undo, execute, execution_of, undo_of, records_of, record_bytes}
use Rattle.model.specs.Compose.{message_of, new_number, new_dependencies, new_group, new_block, composed}
use Rattle.model.specs.Codes.{conflicts, full, past_limit}
use Rattle.model.specs.Calls.{Delivered, deliver_answer}
use Rattle.model.proofs.ExampleMessages.{A, B, C, plain, urgent, right_commands, a1, a2, b1, c2, b1_5, a1_group_2, b1_naming_a1, a1_value, lines, line_number, origin, after, line_a, line_b, line_c}
use Rattle.model.proofs.RecordExamples.{setting}

-- the station that has these floors, and received these since; purged block 0 and group 1
abbrev above : List ℕ → List Message → State
above floors l = after (origin floors 0 1) l

-- a floor on a fourth line, where the other numbers of an origin are of interest
abbrev D1 : ℕ
D1 = line_number 0xD * 65536 + 1

-- ---- "at or below": floors and a sequence
coverings : List ((List ℕ × ℕ) × Bool)
coverings =
    (([], A 1), false)
    -- below, at and above the floor of its line
    ∷ ((A 3 ∷ C 5 ∷ [], A 2), true)
    ∷ ((A 3 ∷ C 5 ∷ [], A 3), true)
    ∷ ((A 3 ∷ C 5 ∷ [], A 4), false)
    ∷ ((A 3 ∷ C 5 ∷ [], C 5), true)
    -- on a line without one
    ∷ ((A 3 ∷ C 5 ∷ [], B 1), false)
    ∷ []

coverings_hold : map (λ e. covered e.0.0 e.0.1) coverings ≡ map (λ e. e.1) coverings
unfolding coverings
coverings_hold = refl

-- ---- "A need at or below its floor counts as placed": floors and a delta; what it waits for
waits : List ((List ℕ × Message) × List ℕ)
waits =
    -- the predecessor: at the floor, and above it
    ((A 3 ∷ [], plain (A 4) [] right_commands), [])
    ∷ ((A 3 ∷ [], plain (A 5) [] right_commands), A 4 ∷ [])
    -- dependencies: below, at, above, and on another line
    ∷ ((A 3 ∷ [], plain (B 1) (A 2 ∷ A 3 ∷ A 4 ∷ C 1 ∷ []) right_commands), A 4 ∷ C 1 ∷ [])
    ∷ []

waits_hold : map (λ e. needs (above e.0.0 []) e.0.1) waits ≡ map (λ e. e.1) waits
unfolding waits needs
waits_hold = refl

-- floors and the deltas received; the log, and the held ones
received : List ((List ℕ × List Message) × (List ℕ × List ℕ))
received =
    -- the only need is at its floor: A2 runs, and B1 that names A1
    ((A 1 ∷ [], a2 ∷ []), (A 2 ∷ [], []))
    ∷ ((A 1 ∷ [], b1_naming_a1 ∷ []), (B 1 ∷ [], []))
    -- just above it: A3 is held, and B1 that names A2; with A2 both run
    ∷ ((A 1 ∷ [], plain (A 3) [] right_commands ∷ plain (B 1) (A 2 ∷ []) right_commands ∷ []), ([], A 3 ∷ B 1 ∷ []))
    ∷ ((A 1 ∷ [], plain (A 3) [] right_commands ∷ plain (B 1) (A 2 ∷ []) right_commands ∷ a2 ∷ []), (A 2 ∷ A 3 ∷ B 1 ∷ [], []))
    -- the floor is another line's
    ∷ ((C 5 ∷ [], a2 ∷ []), ([], A 2 ∷ []))
    ∷ []

abbrev log_and_held : State → List ℕ × List ℕ
log_and_held S = (sequences_of (log_of S), sequences_of (held_of S))

received_holds : map (λ e. log_and_held (above e.0.0 e.0.1)) received ≡ map (λ e. e.1) received
unfolding received log_of held_of executables_of needs
received_holds = refl

-- ---- "no effective block counts below the greatest purged one": the purged block and a set; its log, and the effective blocks along it
effective : List ((ℕ × List Message) × (List ℕ × List ℕ))
effective =
    -- A1 without priority, B1 of block 1, C1 of block 5, C2 after it: B1 comes before A1, since both count as of block 3
    ((0, a1 ∷ b1_5 ∷ urgent (C 1) 5 7 right_commands ∷ c2 ∷ []), (A 1 ∷ B 1 ∷ C 1 ∷ C 2 ∷ [], 0 ∷ 1 ∷ 5 ∷ 5 ∷ []))
    ∷ ((3, a1 ∷ b1_5 ∷ urgent (C 1) 5 7 right_commands ∷ c2 ∷ []), (B 1 ∷ A 1 ∷ C 1 ∷ C 2 ∷ [], 3 ∷ 3 ∷ 5 ∷ 5 ∷ []))
    ∷ []

abbrev blocks_along : State → List ℕ × List ℕ
blocks_along S = (sequences_of (log_of S), map (effective_block S) (log_of S))

effective_holds : map (λ e. blocks_along (after (origin (D1 ∷ []) e.0.0 1) e.0.1)) effective ≡ map (λ e. e.1) effective
unfolding effective log_of needs
effective_holds = refl

-- ---- "the base values, from which the rest is run": the base value of tag 3 and the deltas received, A1 being purged; tag 3
abbrev from : ℤ → Origin
from v = record { floors = A 1 ∷ []; base = set (replicate 64 (pos 0)) 3 v; block = 0; group = 1 }

left : List ((ℤ × List Message) × ℤ)
left =
    ((pos 100, []), pos 100)
    -- B1 adds -20; A2 sets 7; C2 is held
    ∷ ((pos 100, b1 ∷ []), pos 80)
    ∷ ((negsuc 999989, b1 ∷ []), negsuc 999999)
    ∷ ((pos 100, a2 ∷ []), pos 7)
    ∷ ((pos 100, c2 ∷ []), pos 100)
    ∷ []

left_holds : map (λ e. get_or (setpoints_of (after (from e.0.0) e.0.1)) 3 (pos 0)) left ≡ map (λ e. e.1) left
unfolding left setpoints_of start_values run_delta run_command apply change_of operate raise stop log_of needs
left_holds = refl

-- ---- deliver with code 0: a station and a message; the deltas received then, undos, executions, and a step buffer of 242 bytes
abbrev lent : List ℕ
lent = replicate 242 0xEE

abbrev counts : Delivered → ℕ × ℕ × List ℕ
counts d = (d.undos, d.executions, d.steps)

accepted : List ((State × Message) × (List Message × (ℕ × ℕ × List ℕ)))
accepted =
    -- "A delivery at or below a floor answers 0 with no step, and its message joins no set": at it, with other bytes too, and below it
    ((above (A 1 ∷ []) (a2 ∷ []), a1), (a2 ∷ [], (0, 0, lent)))
    ∷ ((above (A 1 ∷ []) (a2 ∷ []), a1_value 2), (a2 ∷ [], (0, 0, lent)))
    ∷ ((above (A 2 ∷ []) [], a1), ([], (0, 0, lent)))
    -- above it: A2 after B1, which is undone to the base value
    ∷ (
      (after (from (pos 100)) (b1 ∷ []), a2),
      (
        a2 ∷ b1 ∷ [],
        (
          1,
          2,
          record_bytes (setting (undo (B 1)) (pos 100)) ++ record_bytes (setting (execute (A 2)) (pos 7))
              ++ record_bytes (setting (execute (B 1)) (negsuc 12)) ++ 0xEE ∷ 0xEE ∷ [],
        ),
      ),
    )
    ∷ []

accepted_holds : map (λ e. ((take_in e.0.1 e.0.0).deltas, counts (deliver_answer 0 e.0.0 [] e.0.1 lent))) accepted ≡ map (λ e. e.1) accepted
unfolding accepted take_in record_bytes records_of execution_of undo_of changes_of start_values run_delta run_command apply change_of operate raise stop log_of needs
accepted_holds = refl

-- ---- "7 and 8 are not looked for there": floors, deltas and a message; whether 7 and 8 hold
refusals : List ((List ℕ × List Message × Message) × (Bool × Bool))
refusals =
    -- with 64 present, at the floor and above it
    ((A 1 ∷ [], lines 2 64, a1), (false, false))
    ∷ ((A 1 ∷ [], lines 2 64, a2), (false, true))
    -- a sequence that is present with other bytes, above the floor; and at the floor, where no image has it
    ∷ ((A 1 ∷ [], plain (A 2) [] right_commands ∷ [], a2), (true, false))
    ∷ ((A 1 ∷ [], a1_value 1 ∷ [], a1_value 2), (false, false))
    ∷ []

refusals_hold : map (λ e. let S = above e.0.0 e.0.1 in (conflicts S e.0.2, full S e.0.2)) refusals ≡ map (λ e. e.1) refusals
unfolding refusals
refusals_hold = refl

-- ---- "Compose counts floors": a station and a line; the number
numbers : List ((State × ℕ) × ℕ)
numbers =
    -- past the floor, on a log without this line; on a line without a floor
    ((above (A 3 ∷ []) (b1 ∷ []), line_a), 4)
    ∷ ((above (A 3 ∷ []) (b1 ∷ []), line_b), 2)
    ∷ ((above (A 3 ∷ []) [], line_c), 1)
    -- the line goes on in the log
    ∷ ((above (A 1 ∷ []) (a2 ∷ []), line_a), 3)
    -- the last number, and past the limit
    ∷ ((above (A 0xFFFE ∷ []) [], line_a), 65535)
    ∷ ((above (A 0xFFFF ∷ []) [], line_a), 65536)
    ∷ []

numbers_hold : map (λ e. new_number e.0.0 e.0.1) numbers ≡ map (λ e. e.1) numbers
unfolding numbers log_of needs
numbers_hold = refl

-- ---- "purged group": the greatest purged group, the deltas received and the new sequence; the group
groups : List ((ℕ × List Message × ℕ) × ℕ)
groups =
    -- "on a log emptied by purging the group is the greatest purged group plus one", with a held one too
    ((4, [], A 1), 5)
    ∷ ((4, c2 ∷ [], A 1), 5)
    ∷ ((0, [], A 1), 1)
    -- above the log's: the last one's sequence is below the new one, and above it
    ∷ ((4, b1 ∷ [], C 1), 4)
    ∷ ((4, b1 ∷ [], A 1), 5)
    -- below the log's
    ∷ ((1, a1_group_2 ∷ [], B 1), 2)
    ∷ []

groups_hold : map (λ e. new_group (after (origin (D1 ∷ []) 0 e.0.0) e.0.1) e.0.2) groups ≡ map (λ e. e.1) groups
unfolding groups log_of needs
groups_hold = refl

-- ---- "and purged block too": the greatest purged block, the deltas received and the flag; the block
blocks : List ((ℕ × List Message × Bool) × ℕ)
blocks =
    -- "on a log emptied by purging .. the block the greatest purged block plus one"
    ((3, [], true), 4)
    ∷ ((3, [], false), 0)
    -- above the log's, and below
    ∷ ((3, b1_5 ∷ [], true), 4)
    ∷ ((3, urgent (B 1) 5 5 right_commands ∷ [], true), 6)
    ∷ []

blocks_hold : map (λ e. new_block (after (origin (D1 ∷ []) e.0.0 1) e.0.1) e.0.2) blocks ≡ map (λ e. e.1) blocks
unfolding blocks log_of needs
blocks_hold = refl

-- ---- 10: floors, purged block and group, a line and the flag, on an emptied log
limits : List ((Origin × ℕ × Bool) × Bool)
limits =
    ((origin (A 0xFFFF ∷ []) 0 1, line_a, false), true)
    ∷ ((origin (A 0xFFFE ∷ []) 0 1, line_a, false), false)
    ∷ ((origin (A 0xFFFF ∷ []) 0 1, line_b, false), false)
    ∷ ((origin (A 1 ∷ []) 0 field_limit, line_a, false), true)
    ∷ ((origin (A 1 ∷ []) 0 (field_limit - 1), line_a, false), false)
    ∷ ((origin (A 1 ∷ []) field_limit 1, line_a, true), true)
    ∷ ((origin (A 1 ∷ []) field_limit 1, line_a, false), false)
    ∷ ((origin (A 1 ∷ []) (field_limit - 1) 1, line_a, true), false)
    ∷ []

limits_hold : map (λ e. past_limit (after e.0.0 []) e.0.1 e.0.2) limits ≡ map (λ e. e.1) limits
unfolding limits log_of needs
limits_hold = refl

-- ---- the message: a station, a line, the flag and the priority. What was purged is not named.
messages : List ((State × ℕ × Bool × ℕ) × Message)
messages =
    ((after (origin (A 1 ∷ B 2 ∷ []) 3 4) [], line_a, true, 7), message_of true (A 2) 5 4 7 [] right_commands)
    ∷ ((after (origin (A 1 ∷ B 2 ∷ []) 3 4) (a2 ∷ []), line_b, false, 0), message_of false (B 3) 4 0 0 (A 2 ∷ []) right_commands)
    ∷ []

messages_hold : map (λ e. composed e.0.0 e.0.1 right_commands e.0.2 e.0.3) messages ≡ map (λ e. e.1) messages
unfolding messages composed new_dependencies log_of needs
messages_hold = refl
