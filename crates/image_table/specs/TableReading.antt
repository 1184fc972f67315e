-- What reading an image's messages into a table answers.
use Rattle.std.specs.Prelude.{◌≡◌, Bool, true, false, ◌||◌, List, ℕ, ◌+◌, ◌≤◌, T, Result, Ok, Err}
use Rattle.model.specs.Lists.{has}
use Rattle.model.specs.Layout.{capacity}
use Rattle.model.specs.Message.{sequence_of, passes}
use Rattle.model.specs.Order.{purged, insert, sequences_of}
use Rattle.model.specs.Image.{log_count, held_count, messages_in, state_in, is_image}
use Rattle.laws_order.specs.TestLaws.{Same}
use Rattle.refusals.specs.declared.Refusal.{Refusal}
use Rattle.refusals.specs.declared.Refusal.TheVariants.{NoImage}
use Rattle.message_sequence.specs.declared.Sequence.{Sequence}
use Rattle.message_sequence.specs.Sequence.{sequence_number}
use Rattle.set_table.specs.declared.Table.{Table}
use Rattle.set_table.specs.Table.{starts_of, message_from, deltas_of, set_in, Holds}

-- ---- one message
pub record IsMessage (b : List ℕ) (at : ℕ) (s : Sequence) : Type 0 where
  pub pass : T (passes (message_from b at))
  pub sequence : sequence_number s ≡ sequence_of (message_from b at)

-- ---- a message's start joins the others
abbrev pub known : List ℕ → List ℕ → ℕ → Bool
known b starts at = has (sequence_of (message_from b at)) (sequences_of (deltas_of b starts))

-- no image has it beside them
abbrev pub unfit : List ℕ → List ℕ → ℕ → Bool
unfit b starts at = purged (set_in b starts) (sequence_of (message_from b at)) || known b starts at

pub record IsTaken (b starts : List ℕ) (at : ℕ) (next : List ℕ) : Type 0 where
  pub new : known b starts at ≡ false
  pub holds : Holds b next
  pub deltas : deltas_of b next ≡ insert (message_from b at) (deltas_of b starts)

abbrev pub TakesIn : List ℕ → List ℕ → ℕ → Result (Unit {0}) Refusal → List ℕ → Type 0
TakesIn b starts at (Ok done) next = IsTaken b starts at next
TakesIn b starts at (Err why) next = (why ≡ NoImage) × (unfit b starts at ≡ true)

-- ---- all of an image's messages
pub record IsTable (b : List ℕ) (t : Table) : Type 0 where
  pub holds : Holds b (starts_of t)
  pub messages : Same (messages_in b) (deltas_of b (starts_of t))
  pub set : set_in b (starts_of t) ≡ state_in b
  pub count : t.count ≡ log_count b + held_count b
  pub fits : t.count ≤ capacity

abbrev pub ReadsTable : List ℕ → Result Table Refusal → Type 0
ReadsTable b (Ok t) = IsTable b t
ReadsTable b (Err why) = (why ≡ NoImage) × (is_image b ≡ false)
