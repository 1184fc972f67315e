-- The four fields with the spaces between them are the line's head.
use native.Mathlib.Omega.{arith}
use Rattle.program_decimal.specs.PutsLaws.{puts_puts}
use borrow.Author.Rules.{rules}
use Rattle.print_log_line.proofs.line.put_head.Statement.{statement}
use Rattle.print_log_line.proofs.line.put_head.Tie as tie

returns : tie.Need-returns
returns c =
    puts_puts (omega arith) (puts_puts (omega arith) (puts_puts (omega arith) c.put_decimal-placed.ensures c.put_after-located.ensures) c.put_after-sized.ensures) c.put_sequence.ensures

pub put_head_spec : {M : Type 1} → statement M
put_head_spec =
    tie.close
    (tie.spec
    (λ c κs. search rules)
    (λ c κs. search rules)
    (λ c κs. search rules)
    (λ c κs. search rules)
    (λ c. search rules)
    returns)
