-- The line feed stands behind the digits.
use native.Mathlib.Omega.{arith}
use Rattle.program_decimal.specs.PutsLaws.{puts_puts}
use borrow.Author.Rules.{rules}
use Rattle.print_log_whole.proofs.printing.put_code.Statement.{statement}
use Rattle.print_log_whole.proofs.printing.put_code.Tie as tie

returns : tie.Need-returns
returns c =
    puts_puts (omega arith) c.put_decimal-next.ensures c.put_text.ensures

pub put_code_spec : {M : Type 1} → statement M
put_code_spec =
    tie.close
    (tie.spec
    (λ c κs. search rules)
    (λ c κs. search rules)
    (λ c. search rules)
    returns)
