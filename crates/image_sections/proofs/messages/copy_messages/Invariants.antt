-- `to` is the offset of the place; the messages that are left, pasted there, end where all of them do, and make what all of them make of
-- the buffer at entry.
use Rattle.std.proofs.Common.{◌≡◌, ◌+◌, length, drop}
use Rattle.model.specs.Bytes.{join}
use Rattle.model.specs.Image.{offset_of}
use Rattle.set_table.specs.Table.{deltas_of, deltas_at}
use Rattle.image_header.specs.Pieces.{pasted}
use Rattle.image_sections.proofs.messages.copy_messages.Given as goal

abbrev pub invariant-loop-place : goal.invariant-loop-place
invariant-loop-place l =
    let all = deltas_of l.pool l.starts in
    let left = join (deltas_at all (drop l.place-index l.places)) in
    let whole = join (deltas_at all l.places) in record {
      here : l.to ≡ offset_of l.at (deltas_at all l.places) l.place-index;
      end : l.to + length left ≡ l.at + length whole;
      bytes : pasted l.out l.to left ≡ pasted l.fn.out l.at whole;
    }
