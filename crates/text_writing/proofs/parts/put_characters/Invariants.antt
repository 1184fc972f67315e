-- The characters so far are a copy of 2k of the sequence's.
use Rattle.std.proofs.Common.{◌≡◌, ◌*◌, take, drop}
use Rattle.std.proofs.Math.Seq.{paste}
use Rattle.model.specs.Layout.{sequence_size}
use Rattle.model.specs.Text.{characters_of}
use Rattle.text_writing.proofs.parts.put_characters.Given as goal

abbrev pub invariant-loop-k : goal.invariant-loop-k
invariant-loop-k l = l.text ≡ paste l.initial.text l.at (characters_of (take sequence_size (drop l.from l.sequences))) (2 * l.k)
