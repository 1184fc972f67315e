-- Tag and value, a space before each, are what is printed of the command.
use Rattle.print_log_commands.specs.CommandLaws.{command_puts}
use borrow.Author.Rules.{rules}
use Rattle.print_log_commands.proofs.put_command.Statement.{statement}
use Rattle.print_log_commands.proofs.put_command.Tie as tie

returns : tie.Need-returns
returns c =
    command_puts c.args.commands.now c.args.from c.byte-tag.ensures.0 c.get_u32-word.ensures c.requires.0 c.put_after-named.auto.out
    c.put_after-named.ensures
    c.put_text-spaced.ensures
    c.put_value.ensures

pub put_command_spec : {M : Type 1} → statement M
put_command_spec =
    tie.close
    (tie.spec
    (λ c. search rules)
    (λ c κs. search rules)
    (λ c. search rules)
    (λ c. search rules)
    (λ c κs. search rules)
    (λ c κs. search rules)
    (λ c κs. search rules)
    (λ c κs. search rules)
    (λ c. search rules)
    returns)
