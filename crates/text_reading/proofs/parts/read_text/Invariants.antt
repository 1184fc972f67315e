-- The bytes so far are a copy of those of k sequences.
use Rattle.std.proofs.Common.{◌≡◌, ◌*◌}
use Rattle.std.proofs.Math.Seq.{paste}
use Rattle.model.specs.Layout.{sequence_size}
use Rattle.model.specs.Text.{sequence_bytes_in}
use Rattle.text_reading.proofs.parts.read_text.Given as goal

abbrev pub invariant-loop-k : goal.invariant-loop-k
invariant-loop-k l = l.bytes ≡ paste l.initial.bytes 0 (sequence_bytes_in l.text) (sequence_size * l.k)
