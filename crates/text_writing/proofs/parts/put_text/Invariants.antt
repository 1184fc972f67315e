-- The text so far is a copy of the characters of k sequences with the commas behind them.
use Rattle.std.proofs.Common.{◌≡◌, ◌*◌}
use Rattle.std.proofs.Math.Seq.{paste}
use Rattle.model.specs.Layout.{text_part_size}
use Rattle.model.specs.Text.{text_of}
use Rattle.text_writing.proofs.parts.put_text.Given as goal

abbrev pub invariant-loop-k : goal.invariant-loop-k
invariant-loop-k l = l.text ≡ paste l.initial.text 0 (text_of l.sequences) (text_part_size * l.k)
