-- The parts of a line, one behind the other, are the line.
use Rattle.std.specs.Prelude.{◌≡◌, List, [], ◌∷◌, ℕ, ◌+◌, ◌-◌, ◌≤◌, T, length, take, drop}
use Rattle.std.proofs.Common.{sym, ◌∙◌, ap, subst, arith, length-drop, take_all}
use Rattle.std.proofs.Math.Seq.{paste}
use Rattle.model.specs.Layout.{header_size, sequence_at, sequence_size, characters_size}
use Rattle.model.specs.Message.{Message, dependency_count, commands_start, commands_of, layout_right}
use Rattle.model.specs.Text.{characters_of}
use Rattle.model.specs.Program.{printed_commands, log_line}
use Rattle.setpoints.specs.Commands.{commands_in}
use Rattle.setpoints.specs.DeltaLaws.{commands_own}
use Rattle.text_writing.specs.CharacterLaws.{characters_sized}
use Rattle.program_decimal.specs.Puts.{numeral, Puts}
use Rattle.program_decimal.specs.PutsLaws.{puts_puts}
use Rattle.print_log_commands.specs.Rooms.{commands_room}
use Rattle.print_log_line.specs.Rooms.{sequence_room, head_room, line_room}
use Rattle.print_log_line.specs.Lines.{sequence_field, line_head}

pub sequence_puts : (m : Message) → header_size ≤ length m → {entry middle exit : List ℕ} {at next : ℕ} → at + sequence_room ≤ length entry
    → Puts entry at 1 (32 ∷ []) next middle → exit ≡ paste middle next (characters_of (take sequence_size (drop sequence_at m))) characters_size
    → Puts entry at sequence_room (sequence_field m) (next + characters_size) exit
sequence_puts m h {entry} {middle} {exit} {at} {next} room p e =
    puts_puts {k = characters_size} (omega arith) p (record { few = omega (arith, sized); end = omega (arith, sized); bytes = e ∙ ap (paste middle next characters) (sym sized) })
  where
    characters : List ℕ
    characters = characters_of (take sequence_size (drop sequence_at m))

    sized : length characters ≡ characters_size
    sized = characters_sized m sequence_at (omega arith)

-- the commands behind a right message's dependencies, as the code lends them, are the message's
pub line_puts : (m : Message) → T (layout_right m) → (place offset : ℕ) {start : ℕ} → start ≡ commands_start (dependency_count m)
    → {entry first second exit : List ℕ} {at a b r : ℕ} → at + line_room ≤ length entry
    → Puts entry at head_room (line_head place offset m) a first
    → Puts first a commands_room (printed_commands (commands_in (take (length m - start) (drop start m)))) b second
    → Puts second b 1 (10 ∷ []) r exit → Puts entry at line_room (log_line place offset m) r exit
unfolding log_line numeral
line_puts m t place offset {start} e {entry} {first} {second} {exit} {at} {a} {b} {r} room p q s =
    puts_puts (omega arith) (puts_puts (omega arith) p (subst (λ (l : List (List ℕ)). Puts first a commands_room (printed_commands l) b second) own q)) s
  where
    own : commands_in (take (length m - start) (drop start m)) ≡ commands_of m
    own =
        ap commands_in (take_all (length m - start) (drop start m) (omega (arith, length-drop start m)))
        ∙ ap (λ (n : ℕ). commands_in (drop n m)) e ∙ commands_own m t
