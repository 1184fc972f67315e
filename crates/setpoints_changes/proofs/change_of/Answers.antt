-- What is made is said of the three fields as read, and `change_read` turns them into those of the command.
use Rattle.std.proofs.Common.{refl, w32}
use Rattle.std.proofs.Math.Facts.{to_z-of_z}
use Rattle.setpoints_changes.specs.ChangeLaws.{change_read}
use Rattle.setpoints_changes.proofs.change_of.Goals as goal

pub returns : goal.returns
returns c =
    let a = c.args in
    let v = to_z-of_z {w = w32} {z = c.of_word-v.result} (record { sfits = c.of_word-v.type_inv }) in
    let before = to_z-of_z {w = w32} {z = c.value_of-before.result} (record { sfits = c.value_of-before.type_inv }) in
    let after = to_z-of_z {w = w32} {z = c.operate-after.result} (record { sfits = c.operate-after.type_inv }) in
    let made =
    change_read a.c.now a.at a.values.now {operation = c.byte-operation.result} {tag = c.tag_of-tag.result} {v = c.of_word-v.result} {before = c.value_of-before.result} {after = c.operate-after.result}
    {d = record { tag = c.tag_of-tag.result; before = c.value_of-before.result; after = c.operate-after.result }}
    (cc c.byte-operation.ensures.0) (cc (c.of_word-v.ensures, c.get_u32.ensures)) (cc c.tag_of-tag.ensures) (cc c.value_of-before.ensures) (cc (v, before, c.operate-after.ensures))
    (cc c.tag_of-tag.ensures) refl refl in
    cc (made, before, after)
