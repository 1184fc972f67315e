-- The number of twelve bytes is that of the first eight, above that of the last four.
use Rattle.std.proofs.Common.{arith}
use Rattle.buffer_reads.specs.FieldLaws.{field_split}
use Rattle.message_sequence.proofs.read_sequence.Goals as goal

pub returns : goal.returns
returns c =
    let split = field_split c.args.s.now c.args.at 8 4 (omega arith) in
    omega (arith, split, c.get_u64-high.ensures, c.get_u32-low.ensures)
