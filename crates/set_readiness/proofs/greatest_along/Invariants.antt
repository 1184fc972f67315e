-- The greatest so far and the numbers of the needs that are left make up the greatest.
use Rattle.set_readiness.proofs.Greatest.{Greatest}
use Rattle.set_readiness.proofs.greatest_along.Given as goal

abbrev pub invariant-loop-need : goal.invariant-loop-need
invariant-loop-need l = Greatest l.rows l.counts l.numbers l.i l.own l.needs l.need-index l.greatest
