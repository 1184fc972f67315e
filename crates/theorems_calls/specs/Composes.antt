-- What document 01 promises of a composed message, over what `compose` and `deliver` were proved to leave behind, their own postconditions.
use Rattle.std.specs.Prelude.{◌≡◌, List, ℕ, Result}
use Rattle.std.proofs.Common.{sym, ◌∙◌, ap₂}
use Rattle.std.specs.Borrow.{Bor, MutBor}
use contract.Lifetimes.{Lfts}
use Rattle.model.specs.Calls.{Composed, compose}
use Rattle.laws_compose.specs.ComposePromise.{ComposePromise}
use Rattle.laws_compose.proofs.PromiseKept.{promise_of}
use Rattle.refusals.specs.declared.Refusal.{Refusal}
use Rattle.compose_message.specs.Answer.{composed_by}
use Rattle.compose.proofs.compose.Reads as compose_reads
use Rattle.theorems_calls.specs.Runs.{DeliveredTo, delivered_as}

-- A call of `compose` on the image b with this line, these commands, flag and priority, and this message buffer, and what it answered and left.
pub record ComposedOn (b line commands : List ℕ) (flag priority : ℕ) (buffer : List ℕ) (a : Composed) : Type 0 where
  pub lifetimes : Lfts 4
  pub image : Bor (List ℕ)
  pub line_lent : Bor (List ℕ)
  pub commands_lent : Bor (List ℕ)
  pub message_entry : MutBor (List ℕ)
  pub message_exit : MutBor (List ℕ)
  pub result : Result ℕ Refusal
  pub post : compose_reads.Post lifetimes (image, (line_lent, (commands_lent, (flag, (priority, (message_entry, tt)))))) result (image, (line_lent, (commands_lent, (flag, (priority, (message_exit, tt))))))
  pub on : b ≡ image.now
  pub of_line : line ≡ line_lent.now
  pub of_commands : commands ≡ commands_lent.now
  pub lent : buffer ≡ message_entry.now
  pub answer : a ≡ composed_by result message_exit.now

-- it is the definition's call
pub composed_as : (b line commands : List ℕ) (flag priority : ℕ) (buffer : List ℕ) (a : Composed) → ComposedOn b line commands flag priority buffer a
    → a ≡ compose b line commands flag priority buffer
composed_as b line commands flag priority buffer a c =
    c.answer ∙ c.post ∙ ap₂ (λ (x y : List ℕ). compose x y c.commands_lent.now flag priority c.message_entry.now) (sym c.on) (sym c.of_line)
    ∙ ap₂ (λ (x y : List ℕ). compose b line x flag priority y) (sym c.of_commands) (sym c.lent)

-- A COMPOSED MESSAGE
pub composed_keeps : (b line commands : List ℕ) (flag priority : ℕ) (buffer : List ℕ) (a : Composed) → ComposedOn b line commands flag priority buffer a → a.code ≡ 0
    → ComposePromise DeliveredTo b line commands flag priority buffer a
composed_keeps b line commands flag priority buffer a c =
    promise_of DeliveredTo delivered_as b line commands flag priority buffer a (composed_as b line commands flag priority buffer a c)
