-- A byte written is a piece of one.
use Rattle.compose_header.specs.NumberLaws.{byte_pasted}
use borrow.Author.Rules.{rules}
use Rattle.compose_header.proofs.put_byte.Statement.{statement}
use Rattle.compose_header.proofs.put_byte.Tie as tie

returns : tie.Need-returns
returns c = byte_pasted c.args.s.now c.args.at c.args.v c.requires.0

pub put_byte_spec : {M : Type 1} → statement M
put_byte_spec = tie.close (tie.spec (λ c. search rules) (λ c. search rules) (λ c. search rules) returns)
