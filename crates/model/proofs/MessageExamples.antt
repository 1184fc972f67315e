-- A delta on the wire: what it needs, where its commands start, and which of codes 3 to 6 a message meets, on both sides of each limit.
use mathlib.Core.Path.{◌≡◌, refl}
use mathlib.Core.List.{List, [], ◌∷◌, ◌++◌, map}
use Prim.Native.Nat.{ℕ, zero, suc, ◌+◌}
use mathlib.Core.Bool.{false}
use mathlib.Core.Bool.{Bool, true, false}
use lib.ListN.{take, set}
use lib.IntN.{pos, negsuc}
use Rattle.model.specs.Layout.{field_limit}
use Rattle.model.specs.Message.{Message, commands_of, needs_of, layout_right, numbers_right, dependencies_right, content_right, command_right}
use Rattle.model.specs.Compose.{message_of}
use Rattle.model.specs.Codes.{message_conditions, lowest_code}
use Rattle.model.proofs.ExampleMessages.{A, B, C, command, plain, right_commands, a1, a2, b1_naming_a1}

-- ---- "A delta needs its dependencies and its predecessor."
needed : List (Message × List ℕ)
needed =
    (a1, [])
    ∷ (a2, A 1 ∷ [])
    ∷ (b1_naming_a1, A 1 ∷ [])
    ∷ (plain (C 2) (A 1 ∷ B 1 ∷ []) right_commands, C 1 ∷ A 1 ∷ B 1 ∷ [])
    ∷ []

needed_holds : map (λ e. needs_of e.0) needed ≡ map (λ e. e.1) needed
unfolding needed
needed_holds = refl

-- ---- "The commands that start past the dependencies": behind none and behind one
commanded : List (Message × List (List ℕ))
commanded =
    (a1, command 1 3 (pos 1500) ∷ [])
    ∷ (b1_naming_a1, command 2 3 (negsuc 19) ∷ [])
    ∷ (plain (C 2) (A 1 ∷ B 1 ∷ []) (right_commands ++ command 3 4 (pos 6)), right_commands ∷ command 3 4 (pos 6) ∷ [])
    ∷ []

commanded_holds : map (λ e. commands_of e.0) commanded ≡ map (λ e. e.1) commanded
unfolding commanded
commanded_holds = refl

-- ---- the lowest of codes 3 to 6 that a message meets; 0 is one that passes
abbrev code_of : Message → ℕ
code_of m = lowest_code (message_conditions m)

-- so many dependencies, ascending; so many commands
abbrev dependencies : ℕ → List ℕ
dependencies zero = []
dependencies (suc n) = dependencies n ++ B (suc n) ∷ []

abbrev commands : ℕ → List ℕ
commands zero = []
commands (suc n) = right_commands ++ commands n

-- 3: kind, byte 1, counts, T, offsets and zeros
layouts : List (Message × ℕ)
layouts =
    (a1, 0)
    -- "47-byte message"; one byte too many; T of 49
    ∷ (take 47 a1, 3)
    ∷ (a1 ++ 0 ∷ [], 3)
    ∷ (set a1 5 49, 3)
    -- kind; byte 1; the two offsets
    ∷ (set a1 0 2, 3)
    ∷ (set a1 1 2, 3)
    ∷ (set a1 7 41, 3)
    ∷ (set a1 9 41, 3)
    -- bytes 10-11, 36-39
    ∷ (set a1 10 1, 3)
    ∷ (set a1 11 1, 3)
    ∷ (set a1 36 1, 3)
    ∷ (set a1 39 1, 3)
    -- "D dependencies 0..8; C commands 1..8"
    ∷ (plain (A 1) (dependencies 8) right_commands, 0)
    ∷ (plain (A 1) (dependencies 9) right_commands, 3)
    ∷ (plain (A 1) [] [], 3)
    ∷ (plain (A 1) [] (commands 8), 0)
    ∷ (plain (A 1) [] (commands 9), 3)
    ∷ []

layouts_hold : map (λ e. code_of e.0) layouts ≡ map (λ e. e.1) layouts
unfolding layouts layout_right numbers_right dependencies_right content_right command_right
layouts_hold = refl

-- 4: "A0"; a dependency of number 0000. 5: "A2 naming A1"; dependencies out of order, equal, own.
named : List (Message × ℕ)
named =
    (plain (A 0) [] right_commands, 4)
    ∷ (plain (A 1) (B 0 ∷ []) right_commands, 4)
    ∷ (plain (A 2) (A 1 ∷ []) right_commands, 5)
    ∷ (plain (A 1) (C 1 ∷ B 1 ∷ []) right_commands, 5)
    ∷ (plain (A 1) (B 1 ∷ B 1 ∷ []) right_commands, 5)
    ∷ (plain (A 1) (A 1 ∷ []) right_commands, 5)
    ∷ (plain (A 3) (A 1 ∷ B 1 ∷ C 1 ∷ []) right_commands, 0)
    ∷ []

named_holds : map (λ e. code_of e.0) named ≡ map (λ e. e.1) named
unfolding named layout_right numbers_right dependencies_right content_right command_right
named_holds = refl

-- 6: flag, group, block and priority, each of the three "0..2147483647". "With byte 1 zero, block and priority are zero. With 01,
-- block is at least 1 and priority may be 0."
headed : List ((Bool × ℕ × ℕ × ℕ) × ℕ)
headed =
    ((false, 0, 0, 0), 0)
    ∷ ((false, field_limit, 0, 0), 0)
    ∷ ((false, field_limit + 1, 0, 0), 6)
    ∷ ((false, 1, 1, 0), 6)
    ∷ ((false, 1, 0, 5), 6)
    ∷ ((true, 1, 0, 5), 6)
    ∷ ((true, 1, 1, 0), 0)
    ∷ ((true, 1, field_limit, field_limit), 0)
    ∷ ((true, 1, field_limit + 1, 5), 6)
    ∷ ((true, 1, 1, field_limit + 1), 6)
    ∷ []

headed_holds : map (λ e. code_of (message_of e.0.0 (A 1) e.0.1 e.0.2 e.0.3 [] right_commands)) headed ≡ map (λ e. e.1) headed
unfolding headed layout_right numbers_right dependencies_right content_right command_right
headed_holds = refl

-- 6: "operation 1..3, tag 0..63, two zero bytes, value v from -1000000 to 1000000": A1 of these commands, which names B1
content : List (List ℕ × ℕ)
content =
    (command 0 3 (pos 5), 6)
    ∷ (command 3 63 (pos 5), 0)
    ∷ (command 4 3 (pos 5), 6)
    ∷ (command 1 64 (pos 5), 6)
    ∷ (set right_commands 2 1, 6)
    ∷ (set right_commands 3 1, 6)
    ∷ (command 1 3 (pos 1000000), 0)
    ∷ (command 1 3 (pos 1000001), 6)
    ∷ (command 1 3 (negsuc 999999), 0)
    ∷ (command 1 3 (negsuc 1000000), 6)
    -- the second command
    ∷ (right_commands ++ right_commands, 0)
    ∷ (right_commands ++ command 1 64 (pos 5), 6)
    ∷ []

content_holds : map (λ e. code_of (plain (A 1) (B 1 ∷ []) e.0)) content ≡ map (λ e. e.1) content
unfolding content layout_right numbers_right dependencies_right content_right command_right
content_holds = refl
