-- The messages read so far are at their places.
use Rattle.image_log.specs.LogRead.{LogReading}
use Rattle.image_log.proofs.read_places.Given as goal

abbrev pub invariant-loop-k : goal.invariant-loop-k
invariant-loop-k l = LogReading l.b l.starts l.offsets l.places l.k
