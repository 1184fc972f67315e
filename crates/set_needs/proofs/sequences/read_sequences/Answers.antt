-- One more sequence is read.
use Rattle.std.proofs.Common.{rules}
use Rattle.set_needs.proofs.Reading.{reading_more}
use Rattle.set_needs.proofs.sequences.read_sequences.Goals as goal

pub loop-i-preserved : goal.loop-i-preserved
loop-i-preserved c = search (rules, reading_more)
