-- What reading and judging an image answers.
use Rattle.std.specs.Prelude.{◌≡◌, false, List, ℕ, ◌≤◌, ◌<◌, length, take, replicate, T, Result, Ok, Err}
use Rattle.model.specs.Lists.{◌∈◌}
use Rattle.model.specs.Layout.{image_size, capacity}
use Rattle.model.specs.Order.{log_of}
use Rattle.model.specs.Image.{log_count, is_image}
use Rattle.refusals.specs.declared.Refusal.{Refusal}
use Rattle.refusals.specs.declared.Refusal.TheVariants.{NoImage}
use Rattle.set_table.specs.Table.{starts_of, deltas_of, deltas_at, set_in}
use Rattle.image_table.specs.TableReading.{IsTable}
use Rattle.image_walk.specs.Walk.{LogOffsets}
use Rattle.image_listed.specs.declared.Station.{Station}
use Rattle.image_listed.specs.Listed.{places_in, log_offsets_in}

-- Zeros, with room for an image.
pub record Blank (out : List ℕ) : Type 0 where
  pub count : ℕ
  pub zeros : out ≡ replicate count 0
  pub room : image_size ≤ count

pub record IsStation (b : List ℕ) (r : Station) : Type 0 where
  pub image : T (is_image b)
  pub table : IsTable b r.table
  pub log : deltas_at (deltas_of b (starts_of r.table)) (places_in r) ≡ log_of (set_in b (starts_of r.table))
  pub inside : (i : ℕ) → i ∈ places_in r → i < length (starts_of r.table)
  pub count : r.logged ≡ log_count b
  pub fits : r.logged ≤ capacity
  pub offsets : LogOffsets b (log_offsets_in r)

abbrev pub Judges : List ℕ → Result Station Refusal → Type 0
Judges b (Ok r) = IsStation b r
Judges b (Err why) = (why ≡ NoImage) × (is_image b ≡ false)

-- What was found to be an image stands at the front of the copy.
abbrev pub Copies : List ℕ → List ℕ → Result Station Refusal → Type 0
Copies b copy (Ok r) = take image_size copy ≡ b
Copies b copy (Err why) = Unit {0}
