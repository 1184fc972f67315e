-- The delta is run; its pairs are written between the head and the zeros behind them.
use Rattle.std.proofs.Common.{◌≡◌, map, take, sym, arith, length-take-le}
use Rattle.std.specs.List.{take-map}
use Rattle.model.specs.Setpoints.{changes_of}
use Rattle.laws_wire.specs.MessageLaws.{passes_sized}
use Rattle.setpoints_changes.specs.Changes.{change_in}
use Rattle.step_records.specs.RecordLaws.{record_written}
use Rattle.step_records.proofs.put_record.Goals as goal

pub byte-count-requires : goal.byte-count-requires
byte-count-requires c = omega (arith, (passes_sized c.args.m.now c.requires.1).total)

pub slice_bounds-changes-end : goal.slice_bounds-changes-end
slice_bounds-changes-end c = let s = passes_sized c.args.m.now c.requires.1 in omega (arith, c.byte-count.ensures.0, s.commands)

pub slice_bounds-put_pairs-end : goal.slice_bounds-put_pairs-end
slice_bounds-put_pairs-end c = let s = passes_sized c.args.m.now c.requires.1 in sym (length-take-le _ _ (omega (arith, c.byte-count.ensures.0, s.commands)))

pub returns : goal.returns
returns c =
    let a = c.args in
    let changes = c.run_delta-next.new.changes in
    let cut = take-map change_in c.byte-count.result changes in
    let kept : map change_in (take c.byte-count.result changes) ≡ changes_of a.m.now a.values = cc (cut, c.byte-count.ensures.0, c.run_delta-next.ensures.1) in
    (c.run_delta-next.ensures.0, record_written a.steps.now a.at a.kind a.m.now a.values {first = c.first_byte.result} {frame = c.put_frame.new.steps} c.requires.0 c.requires.1 (cc c.first_byte.ensures) (cc c.put_frame.ensures) kept (cc c.put_pairs.ensures))
