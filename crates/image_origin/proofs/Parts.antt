-- An origin is right: too many floors, none, or some, of a buffer of an image's size.
use Rattle.std.specs.Prelude.{◌≡◌, refl, List, ℕ, ◌≤◌, ◌<◌, length, get_or}
use Rattle.std.proofs.Common.{arith}
use Rattle.model.specs.Layout.{image_size, most_floors}
use Rattle.model.specs.Order.{all_zero, origin_right}
use Rattle.model.specs.Image.{floor_count, messages_start_in, origin_in}
use Rattle.buffer_reads.specs.FieldLaws.{all_bytes}
use Rattle.image_origin.specs.Origins.{Counted, purged_right}
use Rattle.image_origin.specs.OriginParts.{counted_start, many_floors, origin_unpurged, origin_purged}

module _ (b : List ℕ) (sized : length b ≡ image_size) where
  pub counted : (count : ℕ) → count ≡ floor_count b → count ≤ most_floors → Counted b count
  counted count e h = record { is = e; room = omega arith }

  module _ (few : floor_count b ≤ most_floors) where
    pub start_within : messages_start_in b ≤ length b
    start_within = counted_start (counted (floor_count b) refl few)

    pub no_floor : floor_count b ≡ 0 → origin_right (origin_in b) ≡ all_zero (origin_in b)
    no_floor none = origin_unpurged b start_within none

    pub some_floors : ((i : ℕ) → get_or b i 0 < 256) → 0 < floor_count b → origin_right (origin_in b) ≡ purged_right b
    some_floors are some = origin_purged b (all_bytes b are) start_within few some

pub ruleset parts = (many_floors, counted, start_within, no_floor, some_floors)
