-- Nothing is left: the sequence is none of them.
use Rattle.std.proofs.Common.{rules}
use Rattle.set_needs.proofs.Halving.{halving_done}
use Rattle.set_needs.proofs.sequences.index_of.Goals as goal

pub returns : goal.returns
returns c = search (rules, halving_done)
