-- The tag's four bytes and then the value's four.
use Rattle.std.proofs.Common.{refl, arith}
use Rattle.std.proofs.Math.Facts.{to_z-of_z}
use Rattle.model.specs.Bytes.{bytes, word}
use Rattle.model.specs.Layout.{pair_tag_size, value_size}
use Rattle.buffer_writes.specs.PasteLaws.{paste_paste}
use Rattle.step_pairs.proofs.put_pair.Goals as goal

pub returns : goal.returns
returns c =
    let a = c.args in
    let v = to_z-of_z c.ranges.value in
    let both = paste_paste a.steps.now a.at (bytes pair_tag_size a.tag) (bytes value_size (word a.value)) pair_tag_size value_size (omega arith) refl in
    cc (both, v, c.put_u32.ensures, c.to_word.ensures, c.put_u32-2.ensures)
