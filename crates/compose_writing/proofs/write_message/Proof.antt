-- Header, sequences and commands stand one behind the other, and together they are the message.
use mathlib.Core.Path.{◌≡◌, sym, ◌∙◌, ap}
use mathlib.Core.List.{List}
use Prim.Native.Nat.{ℕ, ◌+◌, ◌*◌}
use native.Mathlib.Omega.{arith}
use lib.ListN.{length, length-map}
use Rattle.model.specs.Layout.{header_size, sequence_size}
use Rattle.set_table.specs.Places.{sequence_in}
use Rattle.image_header.specs.Pieces.{pasted}
use Rattle.compose_writing.specs.Writing.{names_at, sequences_bytes}
use Rattle.compose_writing.specs.WritingLaws.{length_sequences, message_written, message_length}
use borrow.Author.Rules.{rules}
use Rattle.compose_writing.proofs.write_message.Statement.{statement}
use Rattle.compose_writing.proofs.write_message.Tie as tie

returns : tie.Need-returns
returns c =
    let a = c.args in
    let names : List ℕ = names_at a.pool.now a.starts.now a.places.now in
    let start : ℕ = header_size + sequence_size * length a.places.now in
    let count : length names ≡ length a.places.now = length-map a.places.now (sequence_in a.pool.now a.starts.now) in
    let counted : a.h.dependencies ≡ length names = c.requires.dependencies_counted ∙ sym count in
    record {
      message = c.copy_at.ensures
          ∙ ap (λ (b : List ℕ). pasted b start a.commands.now)
          (c.put_sequences.ensures ∙ ap (λ (b : List ℕ). pasted b header_size (sequences_bytes names)) c.put_message_header.ensures)
          ∙ message_written a.message.now a.h names a.commands.now start counted c.requires.commands_counted (omega (arith, length_sequences names))
          (omega (arith, c.requires.room, c.requires.eights, c.requires.few.dependencies_fit, c.requires.few.commands_fit, c.requires.dependencies_counted));
      length_is = ap (λ (n : ℕ). header_size + sequence_size * n + length a.commands.now) (sym count) ∙ sym (message_length a.h names a.commands.now counted c.requires.commands_counted);
    }

pub write_message_spec : {M : Type 1} → statement M
write_message_spec =
    tie.close
    (tie.spec
    (λ c κs. search rules)
    (λ c κs. search rules)
    (λ c. search rules)
    (λ c. search rules)
    (λ c κs. search rules)
    (λ c. search rules)
    (λ c. search rules)
    returns)
