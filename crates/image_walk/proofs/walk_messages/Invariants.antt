-- The invariant: `at` is the offset of the place k, and the first k offsets are written down.
use Rattle.std.proofs.Common.{◌≡◌, ◌≤◌, length}
use Rattle.model.specs.Layout.{capacity}
use Rattle.image_walk.specs.Walk.{count_in, Walking}
use Rattle.image_walk.proofs.walk_messages.Given as goal

abbrev pub invariant-loop-k : goal.invariant-loop-k
invariant-loop-k l = record { counted : l.total ≡ count_in l.b; few : l.total ≤ capacity; room : length l.offsets ≡ capacity; walking : Walking l.b l.offsets l.at l.k }
