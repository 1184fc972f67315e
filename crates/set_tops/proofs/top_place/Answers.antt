-- The top that was looked at is on a lower line, and is passed.
use Rattle.std.proofs.Common.{rules}
use Rattle.set_tops.proofs.Passed.{top_passed}
use Rattle.set_tops.proofs.top_place.Goals as goal

pub loop-p-preserved : goal.loop-p-preserved
loop-p-preserved c = search (rules, top_passed)
