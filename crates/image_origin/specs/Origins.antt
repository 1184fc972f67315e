-- The tests of an origin in the parts in which the code takes them.
use Rattle.std.specs.Prelude.{◌≡◌, Bool, ◌&&◌, List, map, ℕ, ◌+◌, ◌*◌, ◌≤◌, length, leb}
use Rattle.model.specs.Lists.{every, ascending}
use Rattle.model.specs.Bytes.{field}
use Rattle.model.specs.Layout.{sequence_size, field_limit, purged_block_at, purged_group_at, floors_start}
use Rattle.model.specs.Message.{line_of, numbered}
use Rattle.model.specs.Order.{in_range}
use Rattle.model.specs.Image.{floor_count, floors_in, base_in}

-- A buffer's floors are counted, and it ends past them.
pub record Counted (b : List ℕ) (count : ℕ) : Type 0 where
  pub is : count ≡ floor_count b
  pub room : floors_start + sequence_size * count ≤ length b

-- what is asked where there are floors
unfoldable pub purged_right : List ℕ → Bool
purged_right b =
    (ascending (map line_of (floors_in b)) && every numbered (floors_in b))
    && every in_range (base_in b) && (leb (field b purged_block_at 4) field_limit && leb (field b purged_group_at 4) field_limit)
