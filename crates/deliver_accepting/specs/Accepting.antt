-- What is needed to take a new message in, and what comes of it.
use Rattle.std.specs.Prelude.{◌≡◌, not, List, [], ℕ, ◌+◌, ◌≤◌, ◌<◌, length, take, T}
use Rattle.model.specs.Layout.{image_size, message_room, step_room, capacity}
use Rattle.model.specs.Message.{Message, sequence_of, passes}
use Rattle.model.specs.Order.{State, purged}
use Rattle.model.specs.Image.{used_of, image_of, origin_in, state_in}
use Rattle.model.specs.Setpoints.{start_values}
use Rattle.model.specs.Steps.{records_of, records_bytes}
use Rattle.model.specs.Calls.{Delivered, written, accepted_answer}
use Rattle.set_table.specs.Table.{starts_of, deltas_of, deltas_at, set_in, Holds}
use Rattle.set_table.specs.Places.{IsAbsent}
use Rattle.image_listed.specs.declared.Station.{Station}
use Rattle.image_judged.specs.Judging.{IsStation}
use Rattle.log_order.specs.declared.LogOrder.{LogOrder}
use Rattle.log_order.specs.LogOrder.{old_of, places_of, OrderRight}
use Rattle.deliver_steps.specs.PlacedLogs.{IsLogOf}
use Rattle.deliver_accepting.specs.declared.Counts.{Counts}

-- An accepted delivery that made a change, beside the buffers afterwards.
abbrev pub accepted_by : Counts → List ℕ → List ℕ → Delivered
accepted_by c image steps = record { code = 0; undos = c.undos; executions = c.executions; image = image; steps = steps }

-- Image and steps are written for a table, from its old log to its new one, over what stood there.
pub record IsWritten (pool starts old new image steps next-image next-steps : List ℕ) : Type 0 where
  pub image_is : next-image ≡ written (used_of (set_in pool starts)) image
  pub steps_are : next-steps ≡ written (records_bytes (records_of (start_values (set_in pool starts)) (deltas_at (deltas_of pool starts) old) (deltas_at (deltas_of pool starts) new))) steps

-- An image and a step buffer can be written for a table, from an old log that lacks one delta at least, beside which nothing is placed
-- yet, and over the image of a set that uses no more bytes.
pub record Updatable (image : List ℕ) (room : ℕ) (pool starts : List ℕ) (begun : LogOrder) : Type 0 where
  pub size : length image ≡ image_size
  pub steps_room : step_room ≤ room
  pub holds : Holds pool starts
  pub right : OrderRight begun
  pub none : places_of begun ≡ []
  pub few : begun.old_count < capacity
  pub old_state : State
  pub before : IsLogOf pool starts (old_of begun) old_state
  pub smaller : State
  pub image_is : image ≡ image_of smaller
  pub grows : length (used_of smaller) ≤ length (used_of (set_in pool starts))

-- The answer is that of the delivery that leads from the old log's state to the table's set.
pub record Updates (steps pool starts : List ℕ) (begun : LogOrder) (d : Delivered) : Type 0 where
  pub answer : (S : State) → S.origin ≡ origin_in pool → IsLogOf pool starts (old_of begun) S → d ≡ accepted_answer S (set_in pool starts) steps

-- A message that passes 3 to 6 and whose sequence is new and above its floor, a station with room for it, and a pool that begins with its
-- image.
pub record Acceptable (b : List ℕ) (m : Message) (room : ℕ) (pool : List ℕ) (station : Station) (p : ℕ) : Type 0 where
  pub size : length b ≡ image_size
  pub steps_room : step_room ≤ room
  pub judged : IsStation b station
  pub few : station.table.count < capacity
  pub right : T (passes m)
  pub above : T (not (purged (state_in b) (sequence_of m)))
  pub absent : IsAbsent b (starts_of station.table) (sequence_of m) p
  pub pool_size : length pool ≡ image_size + message_room
  pub pooled : take image_size pool ≡ b
