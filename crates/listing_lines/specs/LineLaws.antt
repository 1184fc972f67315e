-- The numbers of a line, one behind the other, are the line.
use Rattle.std.specs.Prelude.{◌≡◌, List, [], ◌∷◌, ◌++◌, ℕ, ◌+◌, ◌≤◌, length}
use Rattle.std.proofs.Common.{subst, arith}
use Rattle.model.specs.Image.{log_count, held_count}
use Rattle.model.specs.Program.{printed_line, last_line}
use Rattle.program_decimal.specs.Puts.{digits_room, numeral, Puts}
use Rattle.program_decimal.specs.PutsLaws.{puts_puts}
use Rattle.listing_lines.specs.Rooms.{line_room, last_room}

-- the bytes of " ", of "log ", of " held " and of the end of a line
abbrev space : List ℕ
space = 32 ∷ []

abbrev log : List ℕ
log = 108 ∷ 111 ∷ 103 ∷ 32 ∷ []

abbrev held : List ℕ
held = 32 ∷ 104 ∷ 101 ∷ 108 ∷ 100 ∷ 32 ∷ []

abbrev line_end : List ℕ
line_end = 10 ∷ []

pub line_puts : (number code undos executions : ℕ) {entry first second third fourth exit : List ℕ} {at a b c d r : ℕ} → at + line_room ≤ length entry
    → Puts entry at digits_room (numeral number) a first → Puts first a (1 + digits_room) (space ++ numeral code) b second
    → Puts second b (1 + digits_room) (space ++ numeral undos) c third → Puts third c (1 + digits_room) (space ++ numeral executions) d fourth
    → Puts fourth d 1 line_end r exit → Puts entry at line_room (printed_line number code undos executions) r exit
unfolding printed_line numeral
line_puts number code undos executions h p q s t u =
    puts_puts (omega arith) (puts_puts (omega arith) (puts_puts (omega arith) (puts_puts (omega arith) p q) s) t) u

pub last_puts : (image : List ℕ) {entry first second exit : List ℕ} {at a b r l h : ℕ} → l ≡ log_count image → h ≡ held_count image
    → at + last_room ≤ length entry → Puts entry at (4 + digits_room) (log ++ numeral l) a first → Puts first a (6 + digits_room) (held ++ numeral h) b second
    → Puts second b 1 line_end r exit → Puts entry at last_room (last_line image) r exit
unfolding last_line numeral
last_puts image {entry} {first} {second} {exit} {at} {a} {b} {r} e f room p q s =
    puts_puts (omega arith)
    (puts_puts (omega arith)
    (subst (λ (n : ℕ). Puts entry at (4 + digits_room) (log ++ numeral n) a first) e p)
    (subst (λ (n : ℕ). Puts first a (6 + digits_room) (held ++ numeral n) b second) f q))
    s
