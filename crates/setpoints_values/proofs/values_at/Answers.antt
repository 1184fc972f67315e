-- One value more is read.
use Rattle.std.proofs.Common.{◌≡◌, ◌∙◌, arith, w32, to_z, of_z, ℤ, pos, get_or, length-set}
use Rattle.std.proofs.Math.Facts.{to_z-of_z}
use Rattle.model.specs.Image.{values_at}
use Rattle.laws_origin.specs.OriginLaws.{values_length, value_in}
use Rattle.setpoints_values.specs.Words.{values_next}
use Rattle.setpoints_values.proofs.values_at.Goals as goal

pub loop-tag-preserved : goal.loop-tag-preserved
loop-tag-preserved c =
    let a = c.args in
    let l = c.loop-tag in
    let read : ℤ = to_z w32 (of_z w32 c.of_word.result) in
    let same = to_z-of_z {w = w32} {z = c.of_word.result} (record { sfits = c.of_word.type_inv }) in
    let value = value_in a.at a.b.now l.tag (omega arith) in
    let is : read ≡ get_or (values_at a.at a.b.now) l.tag (pos 0) = cc (same, value, c.of_word.ensures, c.get_u32.ensures) in
    record {
      size = length-set l.value-items l.tag read ∙ l.invariant.size;
      read = values_next (values_at a.at a.b.now) l.value-items l.tag read (omega arith) (omega (arith, values_length a.at a.b.now)) l.invariant.read is;
    }
