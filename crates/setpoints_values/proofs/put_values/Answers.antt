-- One value more is written; past the last one all are.
use Rattle.std.proofs.Common.{◌≡◌, arith, take_all, get_or, pos, w32, SFits}
use Rattle.std.proofs.Math.Facts.{to_z-of_z}
use Rattle.model.specs.Layout.{tag_count}
use Rattle.setpoints_values.specs.Words.{words_next}
use Rattle.setpoints_values.proofs.put_values.Goals as goal

pub loop-i-preserved : goal.loop-i-preserved
loop-i-preserved c =
    let a = c.args in
    let l = c.loop-i in
    let next = words_next a.image.now a.at a.values l.i (omega arith) (omega arith) in
    let f : SFits w32 (get_or a.values l.i (pos 0)) = record { sfits = omega arith } in
    let v = to_z-of_z f in
    record { size = omega arith; written = cc (next, v, c.to_word.ensures, c.put_u32.ensures, l.invariant.written) }

pub returns : goal.returns
returns c =
    let e : c.loop-i.i ≡ tag_count = omega arith in
    let all = take_all c.loop-i.i c.args.values (omega arith) in
    cc (all, e, c.loop-i.invariant.written)
