-- The line decides.
use mathlib.Core.Path.{sym, ◌∙◌, ap}
use mathlib.Core.Bool.{Bool, cond}
use Rattle.model.specs.Message.{number_of}
use Rattle.message_sequence.specs.Sequence.{sequence_number}
use borrow.Author.Rules.{rules}
use Rattle.compose_numbering.proofs.number.number_on.Statement.{statement}
use Rattle.compose_numbering.proofs.number.number_on.Tie as tie

returns : tie.Need-returns-then-same_line
returns c =
    c.number_of.ensures ∙ ap (λ (b : Bool). cond b (number_of (sequence_number c.args.s)) 0) (sym c.if-same_line.true ∙ c.same_line.ensures)

returns-2 : tie.Need-returns
returns-2 c =
    ap (λ (b : Bool). cond b (number_of (sequence_number c.args.s)) 0) (sym c.if-same_line.false ∙ c.same_line.ensures)

pub number_on_spec : {M : Type 1} → statement M
number_on_spec = tie.close (tie.spec (λ c κs. search rules) (λ c κs. search rules) returns returns-2)
