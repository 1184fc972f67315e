-- The first k pairs are written.
use Rattle.std.proofs.Common.{◌≡◌, map, take, length}
use Rattle.setpoints_changes.specs.Changes.{change_in}
use Rattle.step_pairs.specs.Kinds.{pairs_by}
use Rattle.step_pairs.specs.Pairs.{with_pairs}
use Rattle.step_pairs.proofs.put_pairs.Given as goal

abbrev pub invariant-loop-k : goal.invariant-loop-k
invariant-loop-k l = record {
  size : length l.steps ≡ length l.fn.steps;
  written : l.steps ≡ with_pairs l.fn.steps l.at (take l.k (pairs_by l.kind (map change_in l.changes)));
}
