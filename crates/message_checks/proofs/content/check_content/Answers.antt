-- The commands are those past the dependencies.
use Rattle.std.proofs.Common.{rules, sym, ◌∙◌, ◌+◌, ◌*◌, ap, arith}
use Rattle.std.proofs.lemmas.List.{take_rest}
use Rattle.refusals.specs.Refusals.{checked, passed}
use Rattle.refusals.specs.declared.Refusal.TheVariants.{WrongContent}
use Rattle.message_commands.specs.CommandTests.{commands_right}
use Rattle.message_checks.specs.Content.{priority_right}
use Rattle.message_checks.proofs.Contents.{both_parts}
use Rattle.message_checks.proofs.content.check_content.Goals as goal

pub returns-in_err-check_priority : goal.returns-in_err-check_priority
returns-in_err-check_priority c =
    let both = both_parts c.args.m.now (omega arith) c.requires in
    search rules

pub returns : goal.returns
returns c =
    rw (both_parts c.args.m.now (omega arith) c.requires, passed WrongContent (priority_right c.args.m.now) c.in_ok-check_priority.ensures, sym c.byte-dependencies.ensures.0)
    (c.check_commands.ensures ∙ ap (λ b. checked WrongContent (commands_right b)) (take_rest c.args.m.now (40 + 12 * c.byte-dependencies.result)))
