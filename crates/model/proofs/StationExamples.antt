-- What runs, and in which order: the log of a set of deltas, the held ones, the values that the log leaves, and effective blocks.
-- The starred examples of document 01 set by set, and the rules that they show one by one.
use mathlib.Core.Path.{◌≡◌, refl}
use mathlib.Core.List.{List, [], ◌∷◌, map}
use Prim.Native.Nat.{ℕ}
use lib.ListN.{get_or}
use lib.IntN.{ℤ, pos}
use Rattle.model.specs.Message.{Message}
use Rattle.model.specs.Order.{State, sequences_of, needs, executables_of, log_of, held_of, effective_block}
use Rattle.model.specs.Setpoints.{start_values, stop, raise, operate, change_of, apply, run_command, run_delta, setpoints_of}
use Rattle.model.proofs.ExampleMessages.{A, B, C, plain, urgent, right_commands, a1, a2, b1, c2, stopped, b1_5, c1_7, raised, a1_group_2, a1_naming_b1, b1_naming_a1, holding}

-- ---- what runs: the deltas received; the log, and the held ones
abbrev log_and_held : State → List ℕ × List ℕ
log_and_held S = (sequences_of (log_of S), sequences_of (held_of S))

received : List (List Message × (List ℕ × List ℕ))
received =
    -- No deltas: L 0, H 0. A1: log A1.
    ([], ([], []))
    ∷ (a1 ∷ [], (A 1 ∷ [], []))
    -- A2 then A1: first held; then log A1, A2.
    ∷ (a2 ∷ [], ([], A 2 ∷ []))
    ∷ (a2 ∷ a1 ∷ [], (A 1 ∷ A 2 ∷ [], []))
    -- A1 again.
    ∷ (a1 ∷ a1 ∷ [], (A 1 ∷ [], []))
    -- A1 and B1 each naming the other: L 0, H 2, by ascending sequence.
    ∷ (b1_naming_a1 ∷ a1_naming_b1 ∷ [], ([], A 1 ∷ B 1 ∷ []))
    -- What needs one of the ring is held too; what does not runs.
    ∷ (b1_naming_a1 ∷ a1_naming_b1 ∷ a2 ∷ plain (C 1) [] right_commands ∷ [], (C 1 ∷ [], A 1 ∷ A 2 ∷ B 1 ∷ []))
    -- Unrelated deltas do not wait behind a held one: A2 is held, B1 runs, and B2 after it.
    ∷ (a2 ∷ b1 ∷ plain (B 2) [] right_commands ∷ [], (B 1 ∷ B 2 ∷ [], A 2 ∷ []))
    ∷ []

received_holds : map (λ e. log_and_held (holding e.0)) received ≡ map (λ e. e.1) received
unfolding received log_of held_of executables_of needs
received_holds = refl

-- ---- in which order: the deltas received, and the log
ordered : List (List Message × List ℕ)
ordered =
    -- B1 then A1.
    (b1 ∷ a1 ∷ [], A 1 ∷ B 1 ∷ [])
    -- B1 block 1 priority 5, C1 block 1 priority 7, plain A1: log A1, C1, B1.
    ∷ (b1_5 ∷ c1_7 ∷ a1 ∷ [], A 1 ∷ C 1 ∷ B 1 ∷ [])
    -- With plain C2 too: A1, C1, B1, C2.
    ∷ (c2 ∷ a1 ∷ b1_5 ∷ c1_7 ∷ [], A 1 ∷ C 1 ∷ B 1 ∷ C 2 ∷ [])
    -- The lower block first, whatever the priority.
    ∷ (urgent (A 1) 2 9 right_commands ∷ b1_5 ∷ [], B 1 ∷ A 1 ∷ [])
    -- Explicit priority, of 0 too, before none: B2 has the effective block of B1.
    ∷ (b1_5 ∷ plain (B 2) [] right_commands ∷ urgent (C 1) 1 0 right_commands ∷ [], B 1 ∷ C 1 ∷ B 2 ∷ [])
    -- Group before sequence. A1 of group 2 and B1 of group 1: log B1, A1.
    ∷ (a1_group_2 ∷ b1 ∷ [], B 1 ∷ A 1 ∷ [])
    -- A need before its user, whatever the keys: A1 names B1.
    ∷ (a1_naming_b1 ∷ b1 ∷ [], B 1 ∷ A 1 ∷ [])
    ∷ []

ordered_holds : map (λ e. sequences_of (log_of (holding e.0))) ordered ≡ map (λ e. e.1) ordered
unfolding ordered log_of needs
ordered_holds = refl

-- ---- what the log leaves: the deltas received, and the value of tag 3
left : List (List Message × ℤ)
left =
    ([], pos 0)
    -- A1: tag 3 is 1500. B1 then A1: tag 3 is 1480. A2 is held: nothing is left.
    ∷ (a1 ∷ [], pos 1500)
    ∷ (b1 ∷ a1 ∷ [], pos 1480)
    ∷ (a2 ∷ [], pos 0)
    ∷ (a2 ∷ a1 ∷ [], pos 7)
    -- Set 999990, add 20, add -20: 999980.
    ∷ (stopped ∷ [], pos 999980)
    -- Set 5, raise to 3, to 9, to -1: 9.
    ∷ (raised ∷ [], pos 9)
    -- A1, which names B1, sets what B1 left.
    ∷ (a1_naming_b1 ∷ b1 ∷ [], pos 1500)
    ∷ []

abbrev tag3 : State → ℤ
tag3 S = get_or (setpoints_of S) 3 (pos 0)

left_holds : map (λ e. tag3 (holding e.0)) left ≡ map (λ e. e.1) left
unfolding left setpoints_of start_values run_delta run_command apply change_of operate raise stop log_of needs
left_holds = refl

-- ---- "The effective block is the greater of its own block (0 without priority) and the effective blocks of its needs."
-- A set, and the effective blocks of its log.
effective : List (List Message × List ℕ)
effective =
    -- plain deltas
    (a1 ∷ a2 ∷ [], 0 ∷ 0 ∷ [])
    -- A1, C1 of block 1, B1 of block 1, and plain C2 after C1
    ∷ (a1 ∷ b1_5 ∷ c1_7 ∷ c2 ∷ [], 0 ∷ 1 ∷ 1 ∷ 1 ∷ [])
    -- B1 of block 3; C1 names it; C2 after C1, of block 2; C3 after C2, of block 4
    ∷ (urgent (B 1) 3 5 right_commands ∷ plain (C 1) (B 1 ∷ []) right_commands ∷ urgent (C 2) 2 5 right_commands ∷ urgent (C 3) 4 5 right_commands ∷ [], 3 ∷ 3 ∷ 3 ∷ 4 ∷ [])
    ∷ []

abbrev blocks_of : State → List ℕ
blocks_of S = map (effective_block S) (log_of S)

effective_holds : map (λ e. blocks_of (holding e.0)) effective ≡ map (λ e. e.1) effective
unfolding effective log_of needs
effective_holds = refl
