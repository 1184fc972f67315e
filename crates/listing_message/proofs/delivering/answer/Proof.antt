-- The outcome tells what deliver answered, with a step buffer of zeros.
use Rattle.listing_message.specs.OutcomeLaws.{answers}
use borrow.Author.Rules.{rules}
use Rattle.listing_message.proofs.delivering.answer.Statement.{statement}
use Rattle.listing_message.proofs.delivering.answer.Tie as tie

returns : tie.Need-returns
returns c =
    let a = c.args in
    answers a.image.now a.message.now _ _ c.deliver-delivered.result c.deliver-delivered.ensures c.outcome_of.ensures

pub answer_spec : {M : Type 1} → statement M
answer_spec =
    tie.close
    (tie.spec (λ c. search rules) (λ c κs. search rules) (λ c κs. search rules) (λ c. search rules) returns)
