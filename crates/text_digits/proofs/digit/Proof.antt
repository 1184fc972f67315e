-- A character's place in the table has its digit.
use borrow.Author.Rules.{rules}
use Rattle.text_digits.proofs.digit.Statement.{statement}
use Rattle.text_digits.proofs.digit.Tie as tie

returns : tie.Need-returns
returns c = c.requires.rule c.args.character (search rules)

pub digit_spec : {M : Type 1} → statement M
digit_spec = tie.close (tie.spec (λ c. search rules) returns)
