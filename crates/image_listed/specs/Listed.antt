-- A buffer with its table, and its log as it lists it.
use Rattle.std.specs.Prelude.{◌≡◌, List, ℕ, ◌≤◌, length, take}
use Rattle.model.specs.Layout.{image_size, capacity}
use Rattle.model.specs.Order.{log_of}
use Rattle.model.specs.Image.{log_count}
use Rattle.set_table.specs.declared.Table.{Table}
use Rattle.set_table.specs.Table.{starts_of, deltas_of, deltas_at, set_in, Holds}
use Rattle.image_walk.specs.Walk.{LogOffsets}
use Rattle.image_log.specs.LogRead.{ReadsLog}
use Rattle.image_listed.specs.declared.Station.{Station}

-- The places of the log.
abbrev pub places_in : Station → List ℕ
places_in r = take r.logged r.places

-- And its offsets.
abbrev pub log_offsets_in : Station → List ℕ
log_offsets_in r = take r.logged r.offsets

-- An array that begins with the offsets of a buffer's log.
abbrev pub FrontOffsets : List ℕ → List ℕ → Type 0
FrontOffsets b offsets = LogOffsets b (take (log_count b) offsets)

-- The table, and the log as the buffer lists it; nothing is judged yet.
pub record ListsLog (b : List ℕ) (t : Table) (r : Station) : Type 0 where
  pub table : r.table ≡ t
  pub count : r.logged ≡ log_count b
  pub fits : r.logged ≤ capacity
  pub log : ReadsLog b (starts_of t) r.logged r.places
  pub offsets : LogOffsets b (log_offsets_in r)

-- The listed log is that of the set, and there is a buffer for its image.
pub record Rewritable (out b : List ℕ) (r : Station) : Type 0 where
  pub room : image_size ≤ length out
  pub holds : Holds b (starts_of r.table)
  pub counted : r.table.count ≤ capacity
  pub fits : r.logged ≤ capacity
  pub log : deltas_at (deltas_of b (starts_of r.table)) (places_in r) ≡ log_of (set_in b (starts_of r.table))
