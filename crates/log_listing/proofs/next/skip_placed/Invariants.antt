-- All that were looked at are placed.
use Rattle.std.proofs.Common.{◌≡◌, true, ℕ, ◌≤◌, ◌<◌, get_or}
use Rattle.set_readiness.specs.Ready.{is_placed}
use Rattle.log_listing.proofs.next.skip_placed.Given as goal

abbrev pub invariant-loop-k : goal.invariant-loop-k
invariant-loop-k l = (a : ℕ) → l.from ≤ a → a < l.k → is_placed l.placed (get_or l.sorted a 0) ≡ true
