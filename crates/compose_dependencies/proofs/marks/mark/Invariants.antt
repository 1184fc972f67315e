-- With the indices that are left marked, all of them are.
use Rattle.std.proofs.Common.{◌≡◌, drop}
use Rattle.compose_dependencies.specs.Marks.{marked}
use Rattle.compose_dependencies.proofs.marks.mark.Given as goal

abbrev pub invariant-loop-i : goal.invariant-loop-i
invariant-loop-i l = marked l.marks (drop l.i-index l.indices) ≡ marked l.fn.marks l.indices
