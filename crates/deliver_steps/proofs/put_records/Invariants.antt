-- The records of the deltas up to the place i are written, and the log is run up to there.
use Rattle.deliver_steps.specs.Putting.{Putting}
use Rattle.deliver_steps.proofs.put_records.Given as goal

abbrev pub invariant-loop-i : goal.invariant-loop-i
invariant-loop-i l = Putting l.kind l.pool l.starts l.log l.kept l.at l.fn.values l.fn.steps l.i l.values l.steps
