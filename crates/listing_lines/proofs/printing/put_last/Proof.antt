-- The words with the counts behind them are the last line.
use Rattle.listing_lines.specs.LineLaws.{last_puts}
use borrow.Author.Rules.{rules}
use Rattle.listing_lines.proofs.printing.put_last.Statement.{statement}
use Rattle.listing_lines.proofs.printing.put_last.Tie as tie

returns : tie.Need-returns
returns c =
    last_puts c.args.image.now c.get_u16.ensures.0 c.get_u16-2.ensures.0 c.requires.0
    c.put_after-logged.ensures
    c.put_after-held.ensures
    c.put_text.ensures

pub put_last_spec : {M : Type 1} → statement M
put_last_spec =
    tie.close
    (tie.spec
    (λ c κs. search rules)
    (λ c. search rules)
    (λ c κs. search rules)
    (λ c κs. search rules)
    (λ c. search rules)
    (λ c κs. search rules)
    (λ c κs. search rules)
    (λ c. search rules)
    returns)
