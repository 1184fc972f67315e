-- The keys at the first indices are made.
use Rattle.log_prepared.proofs.Making.{Making}
use Rattle.log_prepared.proofs.keys.fill_keys.Given as goal

abbrev pub invariant-loop-index : goal.invariant-loop-index
invariant-loop-index l = Making l.pool l.starts l.blocks l.indices l.index-index l.keys
