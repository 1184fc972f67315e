-- Demand 2 over a whole run, as one record: what has to hold of the order after every call of every list. As in `Run`, empty,
-- deliver and purge calls are known by what they promise.
use Rattle.std.specs.Prelude.{◌↔◌, List, ◌++◌, ℕ}
use Rattle.model.specs.Lists.{◌∈◌}
use Rattle.model.specs.Message.{Message}
use Rattle.model.specs.Order.{State, Ascending, MeetsRing, Executable, Grounded, IsLog}
use Rattle.model.specs.Image.{log_in, held_in}
use Rattle.model.specs.Calls.{Delivered}
use Rattle.model_runs.specs.Run.{Given, Call, Event, image_after, Run, state_after, remaining_in}

-- The received deltas: those that the calls accepted, less what was purged.
abbrev pub received_in : Given → List Event → List Message
received_in given events = remaining_in given events

-- An image in order, of a station that received these deltas and whose state is S.
pub record InOrder (received : List Message) (S : State) (image : List ℕ) : Type 0 where
  pub deltas : (m : Message) → (m ∈ S.deltas) ↔ (m ∈ received)
  -- "The log lists each executable delta once, needs before, and is the first of all such listings when keys are compared place by place."
  pub first : IsLog S (log_in image)
  -- A received delta is in the log exactly if it is executable, which is to say that all it needs above the floors, step by step back,
  -- was received and contains no ring.
  pub executed : (m : Message) → m ∈ received → (m ∈ log_in image) ↔ Executable S m
  pub grounded : (m : Message) → m ∈ received → (m ∈ log_in image) ↔ Grounded S m
  -- "All others are held", "the held ones by ascending sequence".
  pub held : (m : Message) → (m ∈ held_in image) ↔ ((m ∈ received) × ¬ Executable S m)
  pub held_ascend : Ascending (held_in image)

-- ---- the demand, of every list of calls from an image that empty wrote
pub record OrderKept (begins : Given → List ℕ → Type 0) (answers : List ℕ → Call → Delivered → Type 0) : Type 0 where
  pub in_order : (given : Given) (b : List ℕ) → begins given b → (events : List Event) → Run answers b events
      → InOrder (received_in given events) (state_after given events) (image_after b events)
  -- "a ring of deltas is held for good": also after all later calls, whatever they bring. (The latest call stands first.)
  pub ring_held : (given : Given) (b : List ℕ) → begins given b → (later events : List Event) → Run answers b (later ++ events)
      → (m : Message) → m ∈ received_in given events → MeetsRing (state_after given events) m → m ∈ held_in (image_after b (later ++ events))
