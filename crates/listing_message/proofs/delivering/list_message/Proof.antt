-- The line is that of the answer.
use Rattle.listing_message.specs.OutcomeLaws.{listed}
use borrow.Author.Rules.{rules}
use Rattle.listing_message.proofs.delivering.list_message.Statement.{statement}
use Rattle.listing_message.proofs.delivering.list_message.Tie as tie

returns : tie.Need-returns
returns c =
    listed c.answer-outcome.ensures c.put_line.ensures

pub list_message_spec : {M : Type 1} → statement M
list_message_spec =
    tie.close (tie.spec (λ c κs. search rules) (λ c κs. search rules) (λ c. search rules) (λ c. search rules) returns)
