-- None of those looked at is ready.
use Rattle.std.proofs.Common.{◌≡◌, false, ℕ, ◌<◌}
use Rattle.set_readiness.specs.Ready.{ready_in}
use Rattle.log_check.proofs.waiting.any_ready.Given as goal

abbrev pub invariant-loop-i : goal.invariant-loop-i
invariant-loop-i l = (j : ℕ) → j < l.i → ready_in l.rows l.counts l.placed j ≡ false
