-- Each field is what its reader ensures; the sequence read is that of its number.
use Rattle.std.proofs.Common.{arith}
use Rattle.message_sequence.specs.SequenceLaws.{from_number}
use Rattle.message_header.specs.HeaderLaws.{header_is}
use Rattle.message_header.proofs.header.read_header.Goals as goal

pub returns : goal.returns
returns c =
    header_is _ (from_number c.read_sequence-sequence.result _ (omega arith) c.read_sequence-sequence.ensures)
    c.get_u32-group.ensures c.byte-dependencies.ensures.0 c.byte-commands.ensures.0 c.read_priority-priority.ensures
