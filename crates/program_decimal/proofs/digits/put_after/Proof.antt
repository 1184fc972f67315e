-- The number stands behind the text.
use native.Mathlib.Omega.{arith}
use Rattle.program_decimal.specs.PutsLaws.{puts_puts}
use borrow.Author.Rules.{rules}
use Rattle.program_decimal.proofs.digits.put_after.Statement.{statement}
use Rattle.program_decimal.proofs.digits.put_after.Tie as tie

returns : tie.Need-returns
returns c =
    puts_puts (omega arith) c.put_text-next.ensures c.put_decimal.ensures

pub put_after_spec : {M : Type 1} → statement M
put_after_spec = tie.close (tie.spec (λ c κs. search rules) (λ c κs. search rules) (λ c. search rules) returns)
