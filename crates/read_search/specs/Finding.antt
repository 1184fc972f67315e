-- The log's message that starts at an offset: what is needed to look for it, what is found, and what holds on the way.
use Rattle.std.specs.Prelude.{◌≡◌, List, [], Option, Some, None, ℕ, ◌+◌, ◌≤◌, ◌<◌, length, take, drop, T}
use Rattle.model.specs.Layout.{image_size}
use Rattle.model.specs.Message.{Message}
use Rattle.model.specs.Image.{messages_start_in, log_count, log_in, message_offset, is_image}
use Rattle.model.specs.Calls.{message_at}
use Rattle.image_walk.specs.Walk.{LogOffsets}

pub record Searchable (b offsets : List ℕ) : Type 0 where
  pub sized : length b ≡ image_size
  pub image : T (is_image b)
  pub log : LogOffsets b offsets

-- the message of the log that starts at an offset, by the definition
abbrev pub starting_at : List ℕ → ℕ → Message
starting_at b offset = message_at (messages_start_in b) (log_in b) offset

pub record IsMessage (b : List ℕ) (offset size : ℕ) : Type 0 where
  pub inside : offset + size ≤ image_size
  pub bytes : take size (drop offset b) ≡ starting_at b offset

abbrev pub Finds : List ℕ → ℕ → Option ℕ → Type 0
Finds b offset (Some size) = IsMessage b offset size
Finds b offset None = starting_at b offset ≡ []

-- What holds where the loop of `find_message` tests: none of the first k messages starts there.
pub record Looking (b : List ℕ) (offset k : ℕ) : Type 0 where
  pub upto : k ≤ log_count b
  pub none : (j : ℕ) → j < k → message_offset b j ≡ offset → ⊥
