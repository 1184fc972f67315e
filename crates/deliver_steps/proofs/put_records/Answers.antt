-- One record more is written, and past the last place all are.
use Rattle.std.proofs.Common.{rules, arith}
use Rattle.image_sections.specs.LogPlaceLaws.{delta_passes}
use Rattle.deliver_steps.specs.PuttingLaws.{putting_room, putting_more, putting_all}
use Rattle.deliver_steps.proofs.put_records.Goals as goal

pub put_record-next-requires : goal.put_record-next-requires
put_record-next-requires c =
    let a = c.args in
    let l = c.loop-i in
    let room = putting_room a.kind a.pool.now a.starts.now a.log.now a.kept a.at a.values a.steps.now c.requires l.i l.invariant.behind (omega arith) in
    (omega (arith, room, l.invariant.size, c.place_of-place.ensures), delta_passes a.pool.now a.starts.now a.log.now c.requires.inside c.delta_at-m.ensures (omega arith))

pub loop-i-preserved : goal.loop-i-preserved
loop-i-preserved c =
    let a = c.args in
    let l = c.loop-i in
    putting_more a.kind a.pool.now a.starts.now a.log.now a.kept a.at a.values a.steps.now c.requires {m = c.delta_at-m.result.now} l.invariant (omega arith) (cc c.delta_at-m.ensures)
    (cc (c.put_record-next.ensures.1, c.place_of-place.ensures)) (cc c.put_record-next.ensures.0) (search rules)

pub returns : goal.returns
returns c =
    let a = c.args in
    putting_all a.kind a.pool.now a.starts.now a.log.now a.kept a.at a.values a.steps.now c.requires c.loop-i.invariant (omega arith)
