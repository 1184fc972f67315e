-- The programs: the listing's lines and where it stops to read; the lines of `print_log`, and what it prints of a refused input.
use mathlib.Core.Path.{◌≡◌, refl}
use mathlib.Core.Bool.{Bool, true, false}
use mathlib.Core.List.{List, [], ◌∷◌, ◌++◌, map}
use Prim.Native.Nat.{ℕ}
use lib.ListN.{take, replicate, set}
use lib.IntN.{ℤ, pos, negsuc}
use Rattle.model.specs.Message.{Message}
use Rattle.model.specs.Program.{decimal, printed_line, last_line, bad_cut, printed_value, printed_command, log_line, printed_log}
use Rattle.model.specs.Text.{character_of}
use Rattle.model.proofs.ExampleMessages.{a1, b1, stopped}

-- ---- a number and its digits
numbers : List (ℕ × List ℕ)
numbers = (0, 48 ∷ []) ∷ (9, 57 ∷ []) ∷ (10, 49 ∷ 48 ∷ []) ∷ (1250, 49 ∷ 50 ∷ 53 ∷ 48 ∷ []) ∷ (60000, 54 ∷ 48 ∷ 48 ∷ 48 ∷ 48 ∷ []) ∷ (1000000, 49 ∷ replicate 6 48) ∷ []

numbers_hold : map (λ e. decimal e.0) numbers ≡ map (λ e. e.1) numbers
unfolding numbers
numbers_hold = refl

-- ---- "Each line: message number from 1, code, undos, executions."
lines : List ((ℕ × ℕ × ℕ × ℕ) × List ℕ)
lines =
    -- "1 0 0 1"; "2 0 1 2"; "17 3 0 0"
    ((1, 0, 0, 1), 49 ∷ 32 ∷ 48 ∷ 32 ∷ 48 ∷ 32 ∷ 49 ∷ 10 ∷ [])
    ∷ ((2, 0, 1, 2), 50 ∷ 32 ∷ 48 ∷ 32 ∷ 49 ∷ 32 ∷ 50 ∷ 10 ∷ [])
    ∷ ((17, 3, 0, 0), 49 ∷ 55 ∷ 32 ∷ 51 ∷ 32 ∷ 48 ∷ 32 ∷ 48 ∷ 10 ∷ [])
    ∷ []

lines_hold : map (λ e. printed_line e.0.0 e.0.1 e.0.2 e.0.3) lines ≡ map (λ e. e.1) lines
unfolding lines printed_line
lines_hold = refl

-- ---- "the word log, L, the word held, H": an image's first four bytes
lasts : List (List ℕ × List ℕ)
lasts =
    -- "log 2 held 0"; "log 0 held 12"
    (0 ∷ 2 ∷ 0 ∷ 0 ∷ [], 108 ∷ 111 ∷ 103 ∷ 32 ∷ 50 ∷ 32 ∷ 104 ∷ 101 ∷ 108 ∷ 100 ∷ 32 ∷ 48 ∷ 10 ∷ [])
    ∷ (0 ∷ 0 ∷ 0 ∷ 12 ∷ [], 108 ∷ 111 ∷ 103 ∷ 32 ∷ 48 ∷ 32 ∷ 104 ∷ 101 ∷ 108 ∷ 100 ∷ 32 ∷ 49 ∷ 50 ∷ 10 ∷ [])
    ∷ []

lasts_hold : map (λ e. last_line e.0) lasts ≡ map (λ e. e.1) lasts
unfolding lasts last_line
lasts_hold = refl

-- ---- "A cut outside 48..200 or past the end, or a rest of one to five bytes"
-- so many bytes, with this length field
abbrev rest : ℕ → ℕ → List ℕ
rest size field = set (replicate size 0) 5 field

cuts : List (List ℕ × Bool)
cuts =
    (a1, false)
    ∷ (b1 ++ a1, false)
    ∷ (rest 250 47, true)
    ∷ (rest 250 48, false)
    ∷ (rest 250 200, false)
    ∷ (rest 250 201, true)
    -- past the end by one byte
    ∷ (take 47 a1, true)
    -- of five bytes and of six
    ∷ (take 5 a1, true)
    ∷ (take 6 a1, true)
    ∷ []

cuts_hold : map (λ e. bad_cut e.0) cuts ≡ map (λ e. e.1) cuts
unfolding cuts bad_cut
cuts_hold = refl

-- ---- "a negative value has `-` before its digits"
values : List (ℤ × List ℕ)
values =
    -- "0"; "1000000"; "-1"; "-20"; "-1000000"
    (pos 0, 48 ∷ [])
    ∷ (pos 1000000, 49 ∷ replicate 6 48)
    ∷ (negsuc 0, 45 ∷ 49 ∷ [])
    ∷ (negsuc 19, 45 ∷ 50 ∷ 48 ∷ [])
    ∷ (negsuc 999999, 45 ∷ 49 ∷ replicate 6 48)
    ∷ []

values_hold : map (λ e. printed_value e.0) values ≡ map (λ e. e.1) values
unfolding values printed_value
values_hold = refl

-- ---- the lines of A1, of B1, and of a delta with three commands
-- "00000000000A000000010001", and so of any other last digit of the UID
abbrev sequence : ℕ → List ℕ
sequence digit = replicate 11 48 ++ digit ∷ replicate 7 48 ++ 49 ∷ 48 ∷ 48 ∷ 48 ∷ 49 ∷ []

log_lines : List ((ℕ × ℕ × Message) × List ℕ)
log_lines =
    -- "0 544 48 00000000000A000000010001 3 1500"
    ((0, 544, a1), 48 ∷ 32 ∷ 53 ∷ 52 ∷ 52 ∷ 32 ∷ 52 ∷ 56 ∷ 32 ∷ sequence 65 ++ 32 ∷ 51 ∷ 32 ∷ 49 ∷ 53 ∷ 48 ∷ 48 ∷ 10 ∷ [])
    -- "1 592 48 00000000000B000000010001 3 -20"
    ∷ ((1, 592, b1), 49 ∷ 32 ∷ 53 ∷ 57 ∷ 50 ∷ 32 ∷ 52 ∷ 56 ∷ 32 ∷ sequence 66 ++ 32 ∷ 51 ∷ 32 ∷ 45 ∷ 50 ∷ 48 ∷ 10 ∷ [])
    -- "63 13008 64 00000000000A000000010001 3 999990 3 20 3 -20"
    ∷ (
      (63, 13008, stopped),
      54 ∷ 51 ∷ 32 ∷ 49 ∷ 51 ∷ 48 ∷ 48 ∷ 56 ∷ 32 ∷ 54 ∷ 52 ∷ 32 ∷ sequence 65
          ++ 32 ∷ 51 ∷ 32 ∷ 57 ∷ 57 ∷ 57 ∷ 57 ∷ 57 ∷ 48 ∷ 32 ∷ 51 ∷ 32 ∷ 50 ∷ 48 ∷ 32 ∷ 51 ∷ 32 ∷ 45 ∷ 50 ∷ 48 ∷ 10 ∷ [],
    )
    ∷ []

log_lines_hold : map (λ e. log_line e.0.0 e.0.1 e.0.2) log_lines ≡ map (λ e. e.1) log_lines
unfolding log_lines log_line printed_command printed_value character_of
log_lines_hold = refl

-- ---- an input of another size is refused by 1
short_refused : printed_log a1 ≡ 49 ∷ 10 ∷ []
unfolding printed_log
short_refused = refl
