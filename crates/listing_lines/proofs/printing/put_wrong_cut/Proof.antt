-- The last line stands behind the line of the wrong cut.
use native.Mathlib.Omega.{arith}
use Rattle.program_decimal.specs.PutsLaws.{puts_puts}
use borrow.Author.Rules.{rules}
use Rattle.listing_lines.proofs.printing.put_wrong_cut.Statement.{statement}
use Rattle.listing_lines.proofs.printing.put_wrong_cut.Tie as tie

returns : tie.Need-returns
returns c =
    puts_puts (omega arith) c.put_line-next.ensures c.put_last.ensures

pub put_wrong_cut_spec : {M : Type 1} → statement M
put_wrong_cut_spec = tie.close (tie.spec (λ c κs. search rules) (λ c κs. search rules) (λ c. search rules) returns)
