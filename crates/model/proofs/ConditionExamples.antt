-- The code table row by row: inputs on both sides of each limit, and whether the row's condition holds of them.
-- Row 2 is in `WholeImageExamples`, rows 3 to 6 of a message are in `MessageExamples`; the sizes of compose's line and message
-- buffer are shown by whole calls, in `examples`.
use mathlib.Core.Path.{◌≡◌, refl}
use mathlib.Core.Bool.{Bool, true, false, cond}
use mathlib.Core.List.{List, [], ◌∷◌, ◌++◌, map}
use Prim.Native.Nat.{ℕ, ◌+◌, ◌-◌}
use lib.ListN.{take, replicate}
use lib.Dec.{eqb}
use lib.IntN.{pos}
use Rattle.model.specs.Layout.{image_size, field_limit}
use Rattle.model.specs.Message.{Message, command_right}
use Rattle.model.specs.Order.{state_of, needs, executables_of, log_of, held_of}
use Rattle.model.specs.Compose.{message_of, new_dependencies}
use Rattle.model.specs.Codes.{Conditions, lowest_code, wrong_size, small_steps, conflicts, full, commands_sized, compose_content, held_on, past_limit, many_dependencies, log_message_conditions, setpoint_conditions}
use Rattle.model.proofs.ExampleMessages.{line_number, A, B, command, plain, urgent, right_commands, a1, a2, b1, c2, a1_value, lines, holding, line_a, line_c}

-- Whether the condition of a number of a call's list holds.
abbrev applies : ℕ → Conditions → Bool
applies n [] = false
applies n (c ∷ l) = cond (eqb c.0 n) c.1 (applies n l)

-- ---- "The lowest number that applies to the call is answered"; 0 where none does
lowest : List (Conditions × ℕ)
lowest =
    ([], 0)
    ∷ ((1, false) ∷ (2, false) ∷ [], 0)
    ∷ ((1, false) ∷ (2, true) ∷ (3, false) ∷ [], 2)
    ∷ ((1, false) ∷ (7, true) ∷ (8, true) ∷ [], 7)
    ∷ ((1, true) ∷ (7, true) ∷ (8, true) ∷ [], 1)
    ∷ []

lowest_holds : map (λ e. lowest_code e.0) lowest ≡ map (λ e. e.1) lowest
unfolding lowest
lowest_holds = refl

-- ---- 1: "image of 16,383"
image_sizes : List (ℕ × Bool)
image_sizes = (image_size - 1, true) ∷ (image_size, false) ∷ (image_size + 1, true) ∷ []

image_sizes_hold : map (λ e. wrong_size (replicate e.0 0)) image_sizes ≡ map (λ e. e.1) image_sizes
unfolding image_sizes
image_sizes_hold = refl

-- "The step buffer becomes at least 10,160 bytes"
step_sizes : List (ℕ × Bool)
step_sizes = (10159, true) ∷ (10160, false) ∷ (10161, false) ∷ []

step_sizes_hold : map (λ e. small_steps e.0) step_sizes ≡ map (λ e. e.1) step_sizes
unfolding step_sizes
step_sizes_hold = refl

-- ---- 3, of compose: "commands not 8 to 64 bytes by eights"; true is right
command_sizes : List (List ℕ × Bool)
command_sizes =
    ([], false)
    ∷ (take 7 right_commands, false)
    ∷ (right_commands, true)
    ∷ (take 15 (right_commands ++ right_commands), false)
    ∷ (replicate 64 0, true)
    ∷ (replicate 72 0, false)
    ∷ []

command_sizes_hold : map (λ e. commands_sized e.0) command_sizes ≡ map (λ e. e.1) command_sizes
unfolding command_sizes
command_sizes_hold = refl

-- ---- 6, of compose: commands, flag and priority; true is right
contents : List ((List ℕ × ℕ × ℕ) × Bool)
contents =
    ((right_commands, 0, 0), true)
    ∷ ((right_commands, 1, 0), true)
    -- a flag of 2; a priority without the flag, at its limit, past its limit
    ∷ ((right_commands, 2, 0), false)
    ∷ ((right_commands, 0, 7), false)
    ∷ ((right_commands, 1, field_limit), true)
    ∷ ((right_commands, 1, field_limit + 1), false)
    -- tag 63, and "tag 64", in the second command too
    ∷ ((command 1 63 (pos 5), 0, 0), true)
    ∷ ((command 1 64 (pos 5), 0, 0), false)
    ∷ ((right_commands ++ command 1 64 (pos 5), 0, 0), false)
    ∷ []

contents_hold : map (λ e. compose_content e.0.0 e.0.1 e.0.2) contents ≡ map (λ e. e.1) contents
unfolding contents command_right
contents_hold = refl

-- ---- 7: a set and a message
conflicting : List ((List Message × Message) × Bool)
conflicting =
    -- "A1 twice, values 1 and 2"; with equal bytes; another sequence
    ((a1_value 1 ∷ [], a1_value 2), true)
    ∷ ((a1_value 1 ∷ b1 ∷ [], a1_value 1), false)
    ∷ ((a1_value 1 ∷ [], a2), false)
    ∷ []

conflicting_holds : map (λ e. conflicts (holding e.0.0) e.0.1) conflicting ≡ map (λ e. e.1) conflicting
unfolding conflicting
conflicting_holds = refl

-- ---- 8: a set and a message
filled : List ((List Message × Message) × Bool)
filled =
    -- "a 65th delta"; a 64th; with 64 present one of them again
    ((lines 1 64, a1), true)
    ∷ ((lines 1 63, a1), false)
    ∷ ((a1 ∷ lines 1 63, a1), false)
    ∷ []

filled_holds : map (λ e. full (state_of e.0.0) e.0.1) filled ≡ map (λ e. e.1) filled
unfolding filled
filled_holds = refl

-- ---- 9: a set and a line
held_lines : List ((List Message × ℕ) × Bool)
held_lines =
    -- "A3 alone, compose on A"; on C
    ((plain (A 3) [] right_commands ∷ [], line_a), true)
    ∷ ((plain (A 3) [] right_commands ∷ [], line_c), false)
    -- A1 in the log, C2 held
    ∷ ((a1 ∷ c2 ∷ [], line_a), false)
    ∷ ((a1 ∷ c2 ∷ [], line_c), true)
    ∷ []

held_lines_hold : map (λ e. held_on (holding e.0.0) e.0.1) held_lines ≡ map (λ e. e.1) held_lines
unfolding held_lines held_of executables_of needs
held_lines_hold = refl

-- ---- 10: a set, a line and the flag
abbrev b1_group : ℕ → Message
b1_group group = message_of false (B 1) group 0 0 [] right_commands

limits : List ((List Message × ℕ × Bool) × Bool)
limits =
    -- "with priority, after block 2147483647"; without; after one less
    ((urgent (B 1) field_limit 5 right_commands ∷ [], line_c, true), true)
    ∷ ((urgent (B 1) field_limit 5 right_commands ∷ [], line_c, false), false)
    ∷ ((urgent (B 1) (field_limit - 1) 5 right_commands ∷ [], line_c, true), false)
    -- the group, which is one more than B1's on A and the same on C
    ∷ ((b1_group field_limit ∷ [], line_a, false), true)
    ∷ ((b1_group field_limit ∷ [], line_c, false), false)
    ∷ ((b1_group (field_limit - 1) ∷ [], line_a, false), false)
    ∷ []

limits_hold : map (λ e. past_limit (holding e.0.0) e.0.1 e.0.2) limits ≡ map (λ e. e.1) limits
unfolding limits log_of needs
limits_hold = refl

-- ---- 11: a set and a line
unneeded_by : List ((List Message × ℕ) × Bool)
unneeded_by =
    -- "nine lone lines, a tenth composes"; one of the nine composes; "Eight lone lines, a ninth composes"
    ((lines 1 9, line_a), true)
    ∷ ((lines 1 9, line_number 100), false)
    ∷ ((lines 1 8, line_a), false)
    ∷ []

unneeded_by_holds : map (λ e. many_dependencies (state_of e.0.0) e.0.1) unneeded_by ≡ map (λ e. e.1) unneeded_by
unfolding unneeded_by new_dependencies log_of needs
unneeded_by_holds = refl

-- ---- 12: the header of an image, A1 and B1 in the log and C2 held, and of one of no deltas
abbrev header : List ℕ
header = 0 ∷ 2 ∷ 0 ∷ 1 ∷ 0 ∷ 32 ∷ 0x02 ∷ 0x20 ∷ 0x02 ∷ 0xB0 ∷ 0 ∷ 0 ∷ 0x02 ∷ 0x20 ∷ 0x01 ∷ 0x20 ∷ replicate 16 0

places : List ((List ℕ × ℕ) × Bool)
places =
    -- "log place not below L"
    ((header, 1), false)
    ∷ ((header, 2), true)
    -- "place 0 of an empty log"
    ∷ ((replicate 32 0, 0), true)
    ∷ []

places_hold : map (λ e. applies 12 (log_message_conditions e.0.0 e.0.1)) places ≡ map (λ e. e.1) places
unfolding places
places_hold = refl

-- "tag above 63"
tags : List (ℕ × Bool)
tags = (0, false) ∷ (63, false) ∷ (64, true) ∷ []

tags_hold : map (λ e. applies 12 (setpoint_conditions header e.0)) tags ≡ map (λ e. e.1) tags
unfolding tags
tags_hold = refl
