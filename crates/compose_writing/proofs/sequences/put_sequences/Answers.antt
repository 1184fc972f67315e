-- The sequence at a place is the next of those that are left.
use Rattle.std.proofs.Common.{◌≡◌, ◌∙◌, ◌+◌, ℕ, List, sym, ap, arith, get_or, drop}
use Rattle.std.proofs.lemmas.List.{length-map}
use Rattle.model.specs.Layout.{sequence_size}
use Rattle.laws_order.specs.ListLaws.{get_d_map}
use Rattle.message_sequence.specs.Sequence.{sequence_number}
use Rattle.set_table.specs.Places.{sequence_in}
use Rattle.image_sections.specs.LogPlaceLaws.{place_inside}
use Rattle.image_header.specs.Pieces.{pasted}
use Rattle.compose_writing.specs.Writing.{names_at, sequences_bytes}
use Rattle.compose_writing.specs.WritingLaws.{sequences_next}
use Rattle.compose_writing.proofs.sequences.put_sequences.Goals as goal

pub sequence_at-requires : goal.sequence_at-requires
sequence_at-requires c = (c.requires.0.holds, place_inside _ _ _ c.requires.0 _ c.loop-place-test.true)

pub loop-place-preserved : goal.loop-place-preserved
loop-place-preserved c =
    let l = c.loop-place in
    let k = l.place-index in
    let sequence = sequence_in c.args.pool.now c.args.starts.now in
    let names : List ℕ = names_at c.args.pool.now c.args.starts.now c.args.places.now in
    let s : ℕ = sequence_number c.sequence_at.result in
    let named : s ≡ get_or names k 0 = c.sequence_at.ensures ∙ sym (get_d_map sequence c.args.places.now k 0 0 c.loop-place-test.true) in
    record {
      end = omega arith;
      bytes = ap (λ (x : List ℕ). pasted x (l.to + sequence_size) (sequences_bytes (drop (k + 1) names))) c.put_sequence.ensures
          ∙ sequences_next l.message l.to names k s (omega (arith, length-map c.args.places.now sequence)) named (omega arith) ∙ l.invariant.bytes;
    }
