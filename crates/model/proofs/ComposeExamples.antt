-- Compose: the number, the group, the block and the dependencies of a new delta, and its message.
use mathlib.Core.Path.{◌≡◌, refl}
use mathlib.Core.Bool.{Bool, true, false}
use mathlib.Core.List.{List, [], ◌∷◌, map}
use Prim.Native.Nat.{ℕ}
use Rattle.model.specs.Message.{Message}
use Rattle.model.specs.Order.{State, needs, log_of}
use Rattle.model.specs.Compose.{message_of, new_number, new_dependencies, group_after, new_block, composed}
use Rattle.model.proofs.ExampleMessages.{A, B, C, plain, urgent, right_commands, a1, a2, b1, c2, b1_5, a1_group_2, a1_naming_b1, b1_naming_a1, holding, origin, after, line_a, line_b, line_c}

-- ---- "Number is one more than the line's greatest in the log, or 0001": a station and a line
numbers : List ((State × ℕ) × ℕ)
numbers =
    ((holding [], line_a), 1)
    ∷ ((holding (b1 ∷ []), line_a), 1)
    ∷ ((holding (a1 ∷ b1 ∷ a2 ∷ []), line_a), 3)
    ∷ ((holding (a1 ∷ b1 ∷ a2 ∷ []), line_b), 2)
    -- a held one does not count
    ∷ ((holding (a2 ∷ []), line_a), 1)
    -- the number past the limit: AFFFF in the log, and all before it purged
    ∷ ((after (origin (A 0xFFFE ∷ []) 0 1) (plain (A 0xFFFF) [] right_commands ∷ []), line_a), 65536)
    ∷ []

numbers_hold : map (λ e. new_number e.0.0 e.0.1) numbers ≡ map (λ e. e.1) numbers
unfolding numbers log_of needs
numbers_hold = refl

-- ---- "Group is 1 on an empty log; the highest in the log plus one if the last delta's sequence is above the new one; else the
-- highest": a log and the new sequence, nothing purged
groups : List ((List Message × ℕ) × ℕ)
groups =
    (([], A 1), 1)
    -- Compose on A, log B1: group 2. Compose on B, log A1: group 1.
    ∷ ((b1 ∷ [], A 1), 2)
    ∷ ((a1 ∷ [], B 1), 1)
    -- the highest is not the last one's
    ∷ ((a1_group_2 ∷ b1 ∷ [], C 1), 2)
    ∷ ((a1_group_2 ∷ b1 ∷ [], A 2), 3)
    -- the last one's sequence decides, not the highest
    ∷ ((c2 ∷ a1 ∷ [], B 1), 1)
    ∷ []

groups_hold : map (λ e. group_after 0 e.0.0 e.0.1) groups ≡ map (λ e. e.1) groups
unfolding groups
groups_hold = refl

-- ---- "With priority, block is the highest effective block plus one (1 on an empty log)": a set and the flag
blocks : List ((List Message × Bool) × ℕ)
blocks =
    (([], true), 1)
    ∷ (([], false), 0)
    ∷ ((a1 ∷ [], true), 1)
    ∷ ((b1_5 ∷ [], true), 2)
    ∷ ((b1_5 ∷ [], false), 0)
    ∷ ((urgent (B 1) 3 5 right_commands ∷ plain (B 2) [] right_commands ∷ a1 ∷ [], true), 4)
    -- a held one does not count
    ∷ ((b1_5 ∷ urgent (C 2) 7 5 right_commands ∷ [], true), 2)
    ∷ []

blocks_hold : map (λ e. new_block (holding e.0.0) e.0.1) blocks ≡ map (λ e. e.1) blocks
unfolding blocks log_of needs
blocks_hold = refl

-- ---- "Dependencies are the log deltas that no other log delta needs, less the predecessor": a set and the new sequence
dependencies : List ((List Message × ℕ) × List ℕ)
dependencies =
    (([], A 1), [])
    ∷ ((b1 ∷ [], A 1), B 1 ∷ [])
    -- by ascending sequence
    ∷ ((b1 ∷ a1 ∷ [], C 1), A 1 ∷ B 1 ∷ [])
    -- A1 is needed by A2, and by B1 that names it
    ∷ ((a1 ∷ a2 ∷ [], C 1), A 2 ∷ [])
    ∷ ((a1 ∷ b1_naming_a1 ∷ [], C 1), B 1 ∷ [])
    -- less the predecessor
    ∷ ((a1 ∷ [], A 2), [])
    ∷ ((a1 ∷ b1 ∷ [], A 2), B 1 ∷ [])
    -- a held one is not named; nor does what it names count as needed: C2, which names B1, is held
    ∷ ((b1 ∷ plain (C 2) (B 1 ∷ []) right_commands ∷ [], A 1), B 1 ∷ [])
    ∷ ((a1_naming_b1 ∷ b1_naming_a1 ∷ [], C 1), [])
    ∷ []

dependencies_hold : map (λ e. new_dependencies (holding e.0.0) e.0.1) dependencies ≡ map (λ e. e.1) dependencies
unfolding dependencies new_dependencies log_of needs
dependencies_hold = refl

-- ---- the message: a set, a line, the flag and the priority
messages : List ((List Message × ℕ × Bool × ℕ) × Message)
messages =
    -- Compose on A, log B1: A1, group 2, names B1.
    ((b1 ∷ [], line_a, false, 0), message_of false (A 1) 2 0 0 (B 1 ∷ []) right_commands)
    -- Compose on B, log A1: B1, group 1, names A1.
    ∷ ((a1 ∷ [], line_b, false, 0), message_of false (B 1) 1 0 0 (A 1 ∷ []) right_commands)
    -- Compose on A, log A1: A2, group 1, which names nothing.
    ∷ ((a1 ∷ [], line_a, false, 0), message_of false (A 2) 1 0 0 [] right_commands)
    -- with priority: block 1 on an empty log, 2 after block 1
    ∷ (([], line_a, true, 0), message_of true (A 1) 1 1 0 [] right_commands)
    ∷ ((b1_5 ∷ [], line_c, true, 7), message_of true (C 1) 1 2 7 (B 1 ∷ []) right_commands)
    ∷ []

messages_hold : map (λ e. composed (holding e.0.0) e.0.1 right_commands e.0.2 e.0.3) messages ≡ map (λ e. e.1) messages
unfolding messages composed new_dependencies log_of needs
messages_hold = refl
