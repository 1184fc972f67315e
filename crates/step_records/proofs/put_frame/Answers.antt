-- The head is written, and then the zeros behind the pairs.
use Rattle.std.proofs.Common.{arith}
use Rattle.laws_wire.specs.MessageLaws.{passes_sized}
use Rattle.step_records.specs.FrameLaws.{kind_bytes}
use Rattle.step_records.proofs.put_frame.Goals as goal

pub byte-count-requires : goal.byte-count-requires
byte-count-requires c = omega (arith, (passes_sized c.args.m.now c.requires.1).total)

pub read_sequence-s-requires : goal.read_sequence-s-requires
read_sequence-s-requires c = omega (arith, (passes_sized c.args.m.now c.requires.1).total)

pub clear_unused-requires : goal.clear_unused-requires
clear_unused-requires c = (omega (arith, c.byte-count.ensures.0, (passes_sized c.args.m.now c.requires.1).commands), omega arith)

pub returns : goal.returns
returns c =
    let first = kind_bytes c.args.kind c.byte-count.result (omega arith) (omega arith) in
    cc (first, c.byte-count.ensures.0, c.read_sequence-s.ensures, c.put_head.ensures, c.clear_unused.ensures)
