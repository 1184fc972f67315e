-- The first k commands are run, and their changes kept.
use Rattle.std.proofs.Common.{map}
use Rattle.setpoints_changes.specs.Changes.{change_in}
use Rattle.setpoints.specs.Running.{Running}
use Rattle.setpoints.proofs.run_commands.Given as goal

abbrev pub invariant-loop-k : goal.invariant-loop-k
invariant-loop-k l = Running l.c l.fn.values (map change_in l.changes) l.values l.k
