-- Runs of calls that are known by what they were given and what they answered: demands 2 and 3 hold of them if they answer what the
-- definitions do.
use Rattle.std.specs.Prelude.{◌≡◌, List, [], ◌∷◌, ◌++◌, ℕ}
use Rattle.std.proofs.Common.{sym, ◌∙◌, ap}
use Rattle.model.specs.Message.{Message}
use Rattle.model.specs.Calls.{Emptied, empty, Delivered, deliver, Purged, purge}
use Rattle.model_runs.specs.Run.{Given, Call, delivery, purging, without_steps, Event, image_after, Run, Agreement, Begins, Answers}
use Rattle.model_runs.specs.RunOrder.{OrderKept}
use Rattle.laws_run.specs.RunLaws.{agreement}
use Rattle.laws_run.specs.OrderRuns.{order_kept}

-- `emptied buffer a`: a call of empty on this buffer answered a. A run begins with one that answered 0 and left the image b.
pub record Began (emptied : List ℕ → Emptied → Type 0) (given : Given) (b : List ℕ) : Type 0 where
  pub answer : Emptied
  pub called : emptied given.buffer answer
  pub accepted : answer.code ≡ 0
  pub image : b ≡ answer.image

-- A purge's answer, as one of a list: without steps.
pub record PurgeAnswered (purged : List ℕ → ℕ → Purged → Type 0) (b : List ℕ) (K : ℕ) (a : Delivered) : Type 0 where
  pub answer : Purged
  pub called : purged b K answer
  pub stepless : a ≡ without_steps answer

-- `delivered b m steps a`: a call of deliver on the image b, with this message and step buffer, answered a; `purged b K a`: a call of purge
-- on the image b with this K answered a. The calls of a run are such.
abbrev pub Answered : (List ℕ → Message → List ℕ → Delivered → Type 0) → (List ℕ → ℕ → Purged → Type 0) → List ℕ → Call → Delivered → Type 0
Answered delivered purged b (delivery m steps) a = delivered b m steps a
Answered delivered purged b (purging K) a = PurgeAnswered purged b K a

module _ (emptied : List ℕ → Emptied → Type 0) (delivered : List ℕ → Message → List ℕ → Delivered → Type 0) (purged : List ℕ → ℕ → Purged → Type 0)
    (empties : (buffer : List ℕ) (a : Emptied) → emptied buffer a → a ≡ empty buffer)
    (delivers : (b : List ℕ) (m : Message) (steps : List ℕ) (a : Delivered) → delivered b m steps a → a ≡ deliver b m steps)
    (purges : (b : List ℕ) (K : ℕ) (a : Purged) → purged b K a → a ≡ purge b K) where
  begins : (given : Given) (b : List ℕ) → Began emptied given b → Begins given b
  begins given b e =
      let is : e.answer ≡ empty given.buffer = empties given.buffer e.answer e.called in
      (ap (λ (x : Emptied). x.code) (sym is) ∙ e.accepted, e.image ∙ ap (λ (x : Emptied). x.image) is)

  answers : (b : List ℕ) (c : Call) (a : Delivered) → Answered delivered purged b c a → Answers b c a
  answers b (delivery m steps) a c = delivers b m steps a c
  answers b (purging K) a c = c.stepless ∙ ap without_steps (purges b K c.answer c.called)

  run_of : (b : List ℕ) (events : List Event) → Run (Answered delivered purged) b events → Run Answers b events
  run_of b [] run = tt
  run_of b (e ∷ earlier) run = (answers (image_after b earlier) e.call e.answer run.0, run_of b earlier run.1)

  pub called_agreement : Agreement (Began emptied) (Answered delivered purged)
  called_agreement = record {
    call = λ given b begun e earlier run. agreement.call given b (begins given b begun) e earlier (run_of b (e ∷ earlier) run);
    list = λ given b begun events run. agreement.list given b (begins given b begun) events (run_of b events run);
    equal = λ given other b c p q events others r t. agreement.equal given other b c (begins given b p) (begins other c q) events others (run_of b events r) (run_of c others t);
  }

  pub called_order : OrderKept (Began emptied) (Answered delivered purged)
  called_order = record {
    in_order = λ given b begun events run. order_kept.in_order given b (begins given b begun) events (run_of b events run);
    ring_held = λ given b begun later events run. order_kept.ring_held given b (begins given b begun) later events (run_of b (later ++ events) run);
  }
