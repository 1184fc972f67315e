-- The first values are read.
use Rattle.std.proofs.Common.{◌≡◌, take, length}
use Rattle.model.specs.Layout.{tag_count}
use Rattle.model.specs.Image.{values_at}
use Rattle.setpoints_values.proofs.values_at.Given as goal

abbrev pub invariant-loop-tag : goal.invariant-loop-tag
invariant-loop-tag l = record { size : length l.value-items ≡ tag_count; read : take l.tag l.value-items ≡ take l.tag (values_at l.at l.b) }
