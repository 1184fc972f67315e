-- The log of an image as places of its table: what is needed to read it, what comes of it, and what holds while it is read.
use Rattle.std.specs.Prelude.{◌≡◌, List, ℕ, ◌≤◌, ◌<◌, length, take}
use Rattle.model.specs.Lists.{◌∈◌}
use Rattle.model.specs.Layout.{image_size, capacity}
use Rattle.model.specs.Image.{log_count, log_in, messages_in}
use Rattle.laws_order.specs.TestLaws.{Same}
use Rattle.set_table.specs.Table.{deltas_of, deltas_at, Holds}
use Rattle.image_walk.specs.Walk.{LogOffsets}

-- The messages of an image are in the table, and its log's start at the offsets.
pub record Readable (b starts offsets : List ℕ) : Type 0 where
  pub sized : length b ≡ image_size
  pub holds : Holds b starts
  pub messages : Same (messages_in b) (deltas_of b starts)
  pub log : LogOffsets b offsets
  pub few : log_count b ≤ capacity

pub record ReadsLog (b starts : List ℕ) (logged : ℕ) (places : List ℕ) : Type 0 where
  pub log : deltas_at (deltas_of b starts) (take logged places) ≡ log_in b
  pub inside : (i : ℕ) → i ∈ take logged places → i < length starts

-- What holds where the loop of `read_places` tests: the first k messages of the log are at the first k places.
pub record LogReading (b starts offsets places : List ℕ) (k : ℕ) : Type 0 where
  pub upto : k ≤ length offsets
  pub size : length places ≡ capacity
  pub so_far : deltas_at (deltas_of b starts) (take k places) ≡ take k (log_in b)
  pub inside : (i : ℕ) → i ∈ take k places → i < length starts
