-- The numbers with the bytes between them are the line.
use native.Mathlib.Omega.{arith}
use Rattle.listing_lines.specs.LineLaws.{line_puts}
use borrow.Author.Rules.{rules}
use Rattle.listing_lines.proofs.printing.put_line.Statement.{statement}
use Rattle.listing_lines.proofs.printing.put_line.Tie as tie

returns : tie.Need-returns
returns c =
    let a = c.args in
    line_puts a.number a.code a.undos a.executions (omega arith)
    c.put_decimal-numbered.ensures
    c.put_after-coded.ensures
    c.put_after-undone.ensures
    c.put_after-executed.ensures
    c.put_text.ensures

pub put_line_spec : {M : Type 1} → statement M
put_line_spec =
    tie.close
    (tie.spec
    (λ c κs. search rules)
    (λ c κs. search rules)
    (λ c κs. search rules)
    (λ c κs. search rules)
    (λ c κs. search rules)
    (λ c. search rules)
    returns)
