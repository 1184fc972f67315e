-- The floor's number is small; the greatest at the places is the line's in the log.
use Rattle.std.proofs.Common.{refl, ◌∙◌, ℕ, [], suc, ap, ap₂, arith, add-one, max, get_or}
use Rattle.model.specs.Message.{Message, sequence_of, line_of}
use Rattle.model.specs.Image.{origin_in}
use Rattle.model.specs.Compose.{number_on, highest_number}
use Rattle.laws_order.specs.ListLaws.{greatest_≤}
use Rattle.laws_order.specs.MaxLaws.{greatest_map}
use Rattle.message_sequence.specs.Sequence.{sequence_number}
use Rattle.set_table.specs.Table.{deltas_of}
use Rattle.set_table.specs.Places.{sequence_in}
use Rattle.image_sections.specs.LogPlaceLaws.{log_inside, place_inside}
use Rattle.log_highest.specs.GreatestLaws.{greatest_last}
use Rattle.compose_numbering.specs.NumberLaws.{number_small}
use Rattle.compose_numbering.proofs.number.new_number.Goals as goal

pub loop-place-init : goal.loop-place-init
loop-place-init c =
    let line = line_of (sequence_number c.args.line) in
    record {
      greatest = refl;
      small = omega (arith, c.floor_number-greatest.ensures, greatest_≤ (number_on line) (origin_in c.args.pool.now).floors 65535 (λ f k. omega (arith, number_small line f)));
    }

pub sequence_at-s-requires : goal.sequence_at-s-requires
sequence_at-s-requires c =
    (c.requires.0.holds, place_inside _ _ _ (log_inside _ _ _ c.requires.0) _ c.loop-place-test.true)

pub returns : goal.returns
returns c =
    let l = c.loop-place in
    let pool = c.args.pool.now in
    let starts = c.args.starts.now in
    let line = line_of (sequence_number c.args.line) in
    let number : Message → ℕ = λ m. number_on line (sequence_of m) in (
      add-one l.greatest
          ∙ ap suc (greatest_last (λ (i : ℕ). number_on line (sequence_in pool starts i)) c.args.places.now l.place-index l.greatest l.invariant.greatest c.loop-place-test.false
          ∙ ap₂ max c.floor_number-greatest.ensures
          (greatest_map number (λ (i : ℕ). get_or (deltas_of pool starts) i []) c.args.places.now ∙ ap (highest_number line) c.requires.0.log)),
      omega (arith, l.invariant.small),
    )
