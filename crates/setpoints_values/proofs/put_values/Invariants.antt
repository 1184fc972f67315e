-- The first values are written.
use Rattle.std.proofs.Common.{◌≡◌, ◌*◌, take, length}
use Rattle.std.proofs.Math.Seq.{paste}
use Rattle.model.specs.Layout.{value_size}
use Rattle.setpoints_values.specs.Words.{words_of}
use Rattle.setpoints_values.proofs.put_values.Given as goal

abbrev pub invariant-loop-i : goal.invariant-loop-i
invariant-loop-i l = record { size : length l.image ≡ length l.fn.image; written : l.image ≡ paste l.fn.image l.at (words_of (take l.i l.fn.values)) (value_size * l.i) }
