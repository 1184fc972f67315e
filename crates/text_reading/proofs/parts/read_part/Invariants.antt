-- The bytes so far are a copy of k of the sequence's.
use Rattle.std.proofs.Common.{◌≡◌, take, drop}
use Rattle.std.proofs.Math.Seq.{paste}
use Rattle.model.specs.Layout.{characters_size}
use Rattle.model.specs.Text.{bytes_in}
use Rattle.text_reading.proofs.parts.read_part.Given as goal

abbrev pub invariant-loop-k : goal.invariant-loop-k
invariant-loop-k l = l.bytes ≡ paste l.initial.bytes l.at (bytes_in (take characters_size (drop l.from l.text))) l.k
