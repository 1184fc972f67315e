-- A sequence that is new conflicts with nothing.
use Rattle.std.proofs.Common.{Bool, not, sym, ap}
use Rattle.refusals.specs.Refusals.{checked}
use Rattle.refusals.specs.declared.Refusal.TheVariants.{Conflict}
use Rattle.deliver_checks.specs.RepeatLaws.{absent_conflicts}
use Rattle.deliver_checks.proofs.check_repeat.Goals as goal

pub returns-in_default : goal.returns-in_default
returns-in_default c = sym (ap (λ (t : Bool). checked Conflict (not t)) (absent_conflicts _ _ c.args.message.now _ (rw c.in_default.is at c.requires.1)))
