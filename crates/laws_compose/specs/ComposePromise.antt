-- Compose, as one record: what the message carries, what stands in the buffer, and what happens when the message is delivered to the image
-- that it was composed on. `delivers b m steps a`, that a delivery of m to the image b was answered with a, is a parameter: that of the
-- definitions, or the postcondition of a function.
use Rattle.std.specs.Prelude.{◌≡◌, List, ◌∷◌, ℕ, ◌+◌, ◌≤◌, ◌<◌, length, drop, T}
use Rattle.std.proofs.Math.Option.{some}
use Rattle.model.specs.Layout.{step_room, capacity}
use Rattle.model.specs.Message.{Message, sequence_of, passes}
use Rattle.model.specs.Image.{state_in}
use Rattle.model.specs.Steps.{Step, execute, read_steps}
use Rattle.model.specs.Calls.{Composed, Delivered}
use Rattle.laws_compose.specs.ComposeLaws.{message_by}
use Rattle.laws_compose.specs.ComposedFields.{Carries}

-- "accepted with no undo, and its execution is the first step"
pub record FirstStep (m : Message) (a : Delivered) : Type 0 where
  pub accepted : a.code ≡ 0
  pub no_undo : a.undos ≡ 0
  pub rest : List Step
  pub steps : read_steps (a.undos + a.executions) a.steps ≡ some (execute (sequence_of m) ∷ rest)

pub record ComposePromise (delivers : List ℕ → Message → List ℕ → Delivered → Type 0) (b line commands : List ℕ) (flag priority : ℕ) (buffer : List ℕ) (a : Composed) : Type 0 where
  pub carries : Carries (state_in b) line commands flag priority (message_by a)
  pub passes_all : T (passes (message_by a))
  -- "writes a message into a buffer ..., the rest unchanged; it answers the code and the message's length"
  pub size : a.size ≡ length (message_by a)
  pub rest : drop a.size a.message ≡ drop a.size buffer
  -- "Delivered to the image it was composed on, if that holds fewer than 64"
  pub delivered : length (state_in b).deltas < capacity → (steps : List ℕ) → step_room ≤ length steps
      → (d : Delivered) → delivers b (message_by a) steps d → FirstStep (message_by a) d
