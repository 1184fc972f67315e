-- A command's tag and value, one behind the other, are what is printed of it; and from one command to the next.
use Rattle.std.specs.Prelude.{◌≡◌, refl, List, [], ◌∷◌, ◌++◌, ℕ, ◌+◌, ◌*◌, ◌/◌, ◌≤◌, ◌<◌, length, take, drop}
use Rattle.std.proofs.Common.{sym, ◌∙◌, ap, ap₂, subst, arith}
use Rattle.model.specs.Bytes.{field, integer}
use Rattle.model.specs.Layout.{command_size, most_commands, tag_at, value_at, value_size}
use Rattle.model.specs.Program.{printed_value, printed_command, printed_commands}
use Rattle.laws_wire.specs.BytesLaws.{field_part}
use Rattle.setpoints.specs.Commands.{commands_in}
use Rattle.setpoints.specs.CommandLaws.{commands_end, commands_next}
use Rattle.program_decimal.specs.Puts.{digits_room, numeral, Puts}
use Rattle.program_decimal.specs.PutsLaws.{puts_puts}
use Rattle.program_decimal.specs.Ahead.{Ahead, ahead_all, ahead_next, ahead_none}
use Rattle.print_log_commands.specs.Rooms.{value_room, command_room, commands_room}
use Rattle.print_log_commands.specs.Commands.{Putting}

abbrev space : List ℕ
space = 32 ∷ []

-- ---- one command, by the tag and the word that are read of it
command_is : (c : List ℕ) → space ++ numeral (field c tag_at 1) ++ (space ++ printed_value (integer (field c value_at value_size))) ≡ printed_command c
unfolding printed_command numeral
command_is c = refl

pub command_puts : (commands : List ℕ) (from : ℕ) {tag word : ℕ} → tag ≡ field commands (from + tag_at) 1 → word ≡ field commands (from + value_at) value_size
    → {entry first second exit : List ℕ} {at a b r : ℕ} → at + command_room ≤ length entry → length first ≡ length entry
    → Puts entry at (1 + digits_room) (space ++ numeral tag) a first → Puts first a 1 space b second → Puts second b value_room (printed_value (integer word)) r exit
    → Puts entry at command_room (printed_command (take command_size (drop from commands))) r exit
command_puts commands from {tag} {word} e f {entry} {first} {exit = exit} {at} {r = r} h same p q s =
    subst (λ (t : List ℕ). Puts entry at command_room t r exit)
    (ap₂ (λ (t w : ℕ). space ++ numeral t ++ (space ++ printed_value (integer w)))
    (e ∙ sym (field_part commands from command_size tag_at 1 (omega arith)))
    (f ∙ sym (field_part commands from command_size value_at value_size (omega arith)))
    ∙ command_is (take command_size (drop from commands)))
    (puts_puts (omega arith) p (puts_puts (omega (arith, p.end, p.few)) q s))

-- ---- all of them
module _ {commands entry : List ℕ} {at : ℕ} where
  pub putting_first : length commands ≤ command_size * most_commands → Putting commands entry at entry at 0
  putting_first h = record { room = omega arith; size = refl; ahead = ahead_all (printed_commands (commands_in commands)) entry at }

  module _ {out : List ℕ} {next k : ℕ} (p : Putting commands entry at out next k) where
    pub putting_next : {r : ℕ} {exit : List ℕ} → at + commands_room ≤ length entry → k < length commands / command_size
        → Puts out next command_room (printed_command (take command_size (drop (command_size * k) commands))) r exit → length exit ≡ length out
        → Putting commands entry at exit r (k + 1)
    putting_next h g q same = record {
      room = omega (arith, p.room, q.end, q.few);
      size = same ∙ p.size;
      ahead =
          ahead_next (omega (arith, p.room, p.size))
          (subst (Ahead (printed_commands (commands_in commands)) entry at out next) (ap printed_commands (commands_next commands k g)) p.ahead)
          q;
    }

    pub putting_end : length commands / command_size ≤ k → Puts entry at commands_room (printed_commands (commands_in commands)) next out
    putting_end h =
        ahead_none (omega (arith, p.room))
        (subst (Ahead (printed_commands (commands_in commands)) entry at out next) (ap printed_commands (commands_end commands k h)) p.ahead)
