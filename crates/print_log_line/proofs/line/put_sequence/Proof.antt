-- The characters stand behind the space.
use Rattle.print_log_line.specs.LineLaws.{sequence_puts}
use borrow.Author.Rules.{rules}
use Rattle.print_log_line.proofs.line.put_sequence.Statement.{statement}
use Rattle.print_log_line.proofs.line.put_sequence.Tie as tie

returns : tie.Need-returns
returns c =
    sequence_puts c.args.message.now c.requires.1 c.requires.0 c.put_text-next.ensures c.put_characters.ensures

pub put_sequence_spec : {M : Type 1} → statement M
put_sequence_spec =
    tie.close
    (tie.spec
    (λ c κs. search rules)
    (λ c κs. search rules)
    (λ c. search rules)
    (λ c. search rules)
    returns)
