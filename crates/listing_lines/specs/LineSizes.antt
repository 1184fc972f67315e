-- How long a line and the last line are at most.
use Rattle.std.specs.Prelude.{◌≡◌, refl, List, [], ◌∷◌, ◌++◌, ℕ, ◌≤◌, length}
use Rattle.std.proofs.Common.{subst, arith, length-append}
use Rattle.model.specs.Image.{log_count, held_count}
use Rattle.model.specs.Program.{printed_line, last_line}
use Rattle.program_decimal.specs.Puts.{numeral}
use Rattle.program_decimal.specs.DigitLaws.{numeral_few}
use Rattle.listing_lines.specs.Rooms.{line_room, last_room}

line_is : (number code undos executions : ℕ)
    → numeral number ++ 32 ∷ numeral code ++ 32 ∷ numeral undos ++ 32 ∷ numeral executions ++ 10 ∷ [] ≡ printed_line number code undos executions
unfolding printed_line numeral
line_is number code undos executions = refl

last_is : (image : List ℕ)
    → 108 ∷ 111 ∷ 103 ∷ 32 ∷ numeral (log_count image) ++ 32 ∷ 104 ∷ 101 ∷ 108 ∷ 100 ∷ 32 ∷ numeral (held_count image) ++ 10 ∷ [] ≡ last_line image
unfolding last_line numeral
last_is image = refl

pub line_few : (number code undos executions : ℕ) → length (printed_line number code undos executions) ≤ line_room
line_few number code undos executions =
    subst (λ (t : List ℕ). length t ≤ line_room) (line_is number code undos executions)
    (simp length-append (omega (arith, numeral_few number, numeral_few code, numeral_few undos, numeral_few executions)))

pub last_few : (image : List ℕ) → length (last_line image) ≤ last_room
last_few image =
    subst (λ (t : List ℕ). length t ≤ last_room) (last_is image)
    (simp length-append (omega (arith, numeral_few (log_count image), numeral_few (held_count image))))
