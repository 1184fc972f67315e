-- That whatever answers as compose does keeps the promise: the proof of `promise_of`.
use Rattle.std.specs.Prelude.{◌≡◌, refl, List, ℕ, length, drop, eqb}
use Rattle.std.proofs.Common.{sym, ◌∙◌, ap, subst, drop_at}
use Rattle.model.specs.Bytes.{number}
use Rattle.model.specs.Message.{Message}
use Rattle.model.specs.Image.{state_in}
use Rattle.model.specs.Compose.{composed}
use Rattle.model.specs.Calls.{Composed, compose_answer, compose, Delivered, deliver}
use Rattle.laws_compose.specs.ComposeLaws.{Promised, message_by, compose_written, message_written, compose_promise}
use Rattle.laws_compose.specs.ComposePromise.{FirstStep, ComposePromise}
use Rattle.laws_compose.proofs.ComposeCarries.{compose_carries}

-- ---- of the definition, and so of every compose and deliver that promise what the definitions answer
module _ (b line commands : List ℕ) (flag priority : ℕ) (buffer : List ℕ) (accepted : (compose b line commands flag priority buffer).code ≡ 0) where
  abbrev answer : Composed
  answer = compose b line commands flag priority buffer

  abbrev message : Message
  message = composed (state_in b) (number line) commands (eqb flag 1) priority

  written_as : answer ≡ compose_answer 0 message buffer
  written_as = compose_written b line commands flag priority buffer accepted

  size_is : answer.size ≡ length (message_by answer)
  size_is = ap (λ (a : Composed). a.size) written_as ∙ ap length (sym (ap message_by written_as ∙ message_written message buffer))

  rest_is : drop answer.size answer.message ≡ drop answer.size buffer
  rest_is = subst (λ (a : Composed). drop a.size a.message ≡ drop a.size buffer) (sym written_as) (drop_at message (drop (length message) buffer) (length message) refl)

  promised : Promised b (message_by answer)
  promised = compose_promise b line commands flag priority buffer accepted

  keeps : (delivers : List ℕ → Message → List ℕ → Delivered → Type 0) → ((m : Message) (steps : List ℕ) (d : Delivered) → delivers b m steps d → d ≡ deliver b m steps)
      → ComposePromise delivers b line commands flag priority buffer answer
  keeps delivers f = record {
    carries = compose_carries b line commands flag priority buffer accepted;
    passes_all = promised.passes_all;
    size = size_is;
    rest = rest_is;
    delivered = λ few steps room d h. subst (FirstStep (message_by answer)) (sym (f (message_by answer) steps d h)) (record {
      accepted = promised.accepted few steps room;
      no_undo = promised.no_undo few steps room;
      rest = (promised.first_step few steps room).0;
      steps = (promised.first_step few steps room).1;
    });
  }

pub promise_of : (delivers : List ℕ → Message → List ℕ → Delivered → Type 0)
    → ((b : List ℕ) (m : Message) (steps : List ℕ) (d : Delivered) → delivers b m steps d → d ≡ deliver b m steps)
    → (b line commands : List ℕ) (flag priority : ℕ) (buffer : List ℕ) (a : Composed) → a ≡ compose b line commands flag priority buffer → a.code ≡ 0
    → ComposePromise delivers b line commands flag priority buffer a
promise_of delivers f b line commands flag priority buffer a is e =
    subst (ComposePromise delivers b line commands flag priority buffer) (sym is)
    (keeps b line commands flag priority buffer (sym (ap (λ (x : Composed). x.code) is) ∙ e) delivers (f b))
