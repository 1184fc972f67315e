-- None that was looked at is ready.
use Rattle.std.proofs.Common.{◌≡◌, false, ℕ, ◌≤◌, ◌<◌, get_or}
use Rattle.set_readiness.specs.Ready.{ready_in}
use Rattle.log_listing.proofs.next.first_ready.Given as goal

abbrev pub invariant-loop-k : goal.invariant-loop-k
invariant-loop-k l =
    (a : ℕ) → l.from ≤ a → a < l.k → ready_in l.rows l.counts l.placed (get_or l.sorted a 0) ≡ false
