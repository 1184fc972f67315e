-- What the walk over an image's messages answers, and what holds on its way.
use Rattle.std.specs.Prelude.{◌≡◌, false, List, ℕ, ◌+◌, ◌≤◌, ◌<◌, length, take, get_or, T, Result, Ok, Err}
use Rattle.model.specs.Lists.{◌∈◌}
use Rattle.model.specs.Bytes.{field}
use Rattle.model.specs.Layout.{length_at, capacity}
use Rattle.model.specs.Message.{Message, passes}
use Rattle.model.specs.Image.{log_count, held_count, used_count, messages_in, message_offset}
use Rattle.refusals.specs.declared.Refusal.{Refusal}
use Rattle.refusals.specs.declared.Refusal.TheVariants.{NoImage}
use Rattle.set_table.specs.Table.{message_from}
use Rattle.image_walk.specs.declared.Walk.{Walk}

-- how many messages an image says it has
abbrev pub count_in : List ℕ → ℕ
count_in b = log_count b + held_count b

-- where the message at an offset ends, refused where nothing there passes 3 to 6
abbrev pub Ends : List ℕ → ℕ → Result ℕ Refusal → Type 0
Ends b at (Ok end) = T (passes (message_from b at)) × (end ≡ at + field b (at + length_at) 2)
Ends b at (Err why) = (why ≡ NoImage) × (passes (message_from b at) ≡ false)

-- What holds where the loop of `walk_messages` tests: the value that it carries is the offset of the place.
pub record Walking (b offsets : List ℕ) (at place : ℕ) : Type 0 where
  pub here : at ≡ message_offset b place
  pub inside : at ≤ length b
  -- of the places before it
  pub pass : (m : Message) → m ∈ take place (messages_in b) → T (passes m)
  pub each : (k : ℕ) → k < place → get_or offsets k 0 ≡ message_offset b k

-- What the walk asks of a buffer: its messages are not too many, each passes 3 to 6, and past the last one are the bytes used.
pub record Walkable (b : List ℕ) : Type 0 where
  pub fits : count_in b ≤ capacity
  pub pass : (m : Message) → m ∈ messages_in b → T (passes m)
  pub used : message_offset b (count_in b) ≡ used_count b

-- The offsets of the first n messages of a buffer.
pub record Offsets (b : List ℕ) (n : ℕ) (offsets : List ℕ) : Type 0 where
  pub count : length offsets ≡ n
  pub each : (k : ℕ) → k < n → get_or offsets k 0 ≡ message_offset b k

-- Those of the log's.
abbrev pub LogOffsets : List ℕ → List ℕ → Type 0
LogOffsets b offsets = Offsets b (log_count b) offsets

abbrev pub offsets_of : Walk → List ℕ
offsets_of w = take w.count w.offsets

abbrev pub Walks : List ℕ → Result Walk Refusal → Type 0
Walks b (Ok w) = Walkable b × (w.count ≡ count_in b) × Offsets b (count_in b) (offsets_of w)
Walks b (Err why) = (why ≡ NoImage) × (Walkable b → ⊥)
