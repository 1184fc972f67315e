-- The part at k, and those behind it.
use Rattle.std.proofs.Common.{rules}
use Rattle.refusals.specs.Refusals.{passed, failed}
use Rattle.refusals.specs.declared.Refusal.TheVariants.{WrongForm}
use Rattle.text_checks.proofs.Parts.{right_more}
use Rattle.text_checks.proofs.forms.check_text.Goals as goal

pub returns-in_err-check_part : goal.returns-in_err-check_part
returns-in_err-check_part c =
    let wrong = failed WrongForm _ _ c.in_err-check_part.ensures in
    rw (c.loop-k.invariant, right_more c.args.text.now c.loop-k.k c.loop-k-test.true) (search rules)

pub loop-k-preserved : goal.loop-k-preserved
loop-k-preserved c =
    let right = passed WrongForm _ c.in_ok-check_part.ensures in
    rw (c.loop-k.invariant, right_more c.args.text.now c.loop-k.k c.loop-k-test.true) (search rules)
