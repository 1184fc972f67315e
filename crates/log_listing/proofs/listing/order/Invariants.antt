-- The deltas placed so far, and what is to follow them, are the log; all before `first` are placed.
use Rattle.set_table.specs.Table.{set_in}
use Rattle.log_listing.specs.Next.{Skips}
use Rattle.log_listing.specs.Ordered.{Growing}
use Rattle.log_listing.proofs.listing.order.Given as goal

abbrev pub invariant-loop : goal.invariant-loop
invariant-loop l = Growing (set_in l.pool l.starts) l.fn.begun l.placed l.log l.counter × Skips l.by_key l.placed 0 l.first
