-- The greatest so far, which begins with the floor's, and those that are left make up the line's greatest.
use Rattle.std.proofs.Common.{◌≡◌, ◌<◌, ℕ, max, drop}
use Rattle.model.specs.Lists.{greatest}
use Rattle.model.specs.Layout.{numbers_of_line}
use Rattle.model.specs.Message.{line_of}
use Rattle.model.specs.Compose.{number_on}
use Rattle.message_sequence.specs.Sequence.{sequence_number}
use Rattle.set_table.specs.Places.{sequence_in}
use Rattle.compose_numbering.proofs.number.new_number.Given as goal

abbrev pub invariant-loop-place : goal.invariant-loop-place
invariant-loop-place l =
    let number = λ (i : ℕ). number_on (line_of (sequence_number l.line)) (sequence_in l.pool l.starts i) in
    record {
      greatest : max l.initial.greatest (greatest number l.places) ≡ max l.greatest (greatest number (drop l.place-index l.places));
      small : l.greatest < numbers_of_line;
    }
