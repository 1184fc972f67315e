-- There is room for the next message, since there is for all that are left.
use Rattle.std.proofs.Common.{refl, sym, ◌≤◌, ◌+◌, ◌∙◌, ap, arith, length, drop}
use Rattle.model.specs.Bytes.{join}
use Rattle.laws_state.specs.OffsetLaws.{offset_first}
use Rattle.set_table.specs.Table.{deltas_of, deltas_at}
use Rattle.image_header.specs.Pieces.{pasted}
use Rattle.image_sections.specs.LogPlaceLaws.{place_inside}
use Rattle.image_sections.proofs.Copying.{left_size, left_bytes, next_offset}
use Rattle.image_sections.proofs.messages.copy_messages.Goals as goal

pub message_at-m-requires : goal.message_at-m-requires
message_at-m-requires c = (c.requires.0.holds, place_inside _ _ _ c.requires.0 _ c.loop-place-test.true)

pub loop-place-init : goal.loop-place-init
loop-place-init c = record {
  here = sym (offset_first _ _);
  end = refl;
  bytes = refl;
}

pub loop-place-preserved : goal.loop-place-preserved
loop-place-preserved c =
    let all = deltas_of c.args.pool.now c.args.starts.now in
    let places = c.args.places.now in
    let l = c.loop-place in
    let m = c.message_at-m.result.now in
    let size = left_size all places l.place-index c.loop-place-test.true m c.message_at-m.ensures in
    let room : l.to + length m ≤ length l.out = omega (arith, size) in
    record {
      here = next_offset c.args.at all places l.place-index c.loop-place-test.true m c.message_at-m.ensures l.to l.invariant.here;
      end = omega (arith, size);
      bytes = ap (λ o. pasted o (l.to + length m) (join (deltas_at all (drop (l.place-index + 1) places)))) c.copy_at.ensures
          ∙ left_bytes all places l.place-index c.loop-place-test.true m c.message_at-m.ensures l.out l.to room ∙ l.invariant.bytes;
    }
