-- An outcome is what deliver answered, and its line is that of the answer.
use Rattle.std.specs.Prelude.{◌≡◌, List, ℕ, Result, Ok, Err}
use Rattle.std.proofs.Common.{◌∙◌, ap, ap₂}
use Rattle.model.specs.Calls.{Delivered, deliver}
use Rattle.model.specs.Program.{printed_line, step_buffer}
use Rattle.refusals.specs.declared.Refusal.{Refusal}
use Rattle.deliver_accepting.specs.declared.Counts.{Counts}
use Rattle.deliver_taking.specs.Answer.{delivered_by}
use Rattle.program_decimal.specs.Puts.{Puts}
use Rattle.program_decimal.specs.PutsLaws.{puts_as}
use Rattle.listing_lines.specs.Rooms.{line_room}
use Rattle.listing_lines.specs.LineSizes.{line_few}
use Rattle.listing_message.specs.declared.delivering.Outcome.{Outcome}
use Rattle.listing_message.specs.Outcome.{outcome_by, answered, Answers, answer_line, Listed}

pub answers : (image message exit steps : List ℕ) (d : Result Counts Refusal) {r : Outcome} → delivered_by d exit steps ≡ deliver image message step_buffer → r ≡ outcome_by d → Answers image message r exit
unfolding answered
answers image message exit steps (Ok counts) e t = record {
  code = ap (λ (o : Outcome). o.code) t ∙ ap (λ (x : Delivered). x.code) e;
  undos = ap (λ (o : Outcome). o.undos) t ∙ ap (λ (x : Delivered). x.undos) e;
  executions = ap (λ (o : Outcome). o.executions) t ∙ ap (λ (x : Delivered). x.executions) e;
  image_after = ap (λ (x : Delivered). x.image) e;
}
answers image message exit steps (Err why) e t = record {
  code = ap (λ (o : Outcome). o.code) t ∙ ap (λ (x : Delivered). x.code) e;
  undos = ap (λ (o : Outcome). o.undos) t ∙ ap (λ (x : Delivered). x.undos) e;
  executions = ap (λ (o : Outcome). o.executions) t ∙ ap (λ (x : Delivered). x.executions) e;
  image_after = ap (λ (x : Delivered). x.image) e;
}

pub listed : {image message image_exit out out-exit : List ℕ} {at number r : ℕ} {o : Outcome} → Answers image message o image_exit
    → Puts out at line_room (printed_line number o.code o.undos o.executions) r out-exit → Listed image message out at number r image_exit out-exit
unfolding answer_line
listed {image} {message} {number = number} {o = o} a p = record {
  line =
      puts_as
      (ap (λ (c : ℕ). printed_line number c o.undos o.executions) a.code
      ∙ ap₂ (λ (u e : ℕ). printed_line number (answered image message).code u e) a.undos a.executions)
      (line_few number (answered image message).code (answered image message).undos (answered image message).executions)
      p;
  image_after = a.image_after;
}
