-- What is zero where nothing was purged: the bytes of the base values, the block, the group.
use Rattle.std.specs.Prelude.{◌≡◌, ◌&&◌, List, ℕ, ◌≤◌, ◌<◌, length, take, drop, eqb, slice_index}
use Rattle.std.proofs.Common.{ap, arith}
use Rattle.model.specs.Lists.{every}
use Rattle.model.specs.Bytes.{field}
use Rattle.model.specs.Layout.{values_size, base_start, floors_start, purged_block_at, purged_group_at}
use Rattle.model.specs.Order.{all_zero}
use Rattle.model.specs.Image.{messages_start_in, origin_in}
use Rattle.laws_origin.specs.OriginLaws.{start_least}
use Rattle.buffer_reads.specs.FieldLaws.{all_bytes}
use Rattle.image_origin.specs.ZeroLaws.{base_zero}

module _ (b : List ℕ) (room : messages_start_in b ≤ length b) where
  pub past_base : floors_start ≤ length b
  past_base = omega (arith, start_least b)

  pub all_of : ((i : ℕ) → slice_index b i < 256) → all_zero (origin_in b)
      ≡ every (λ x. eqb x 0) (take values_size (drop base_start b)) && eqb (field b purged_block_at 4) 0 && eqb (field b purged_group_at 4) 0
  unfolding origin_in
  all_of bytes = ap (λ t. t && eqb (field b purged_block_at 4) 0 && eqb (field b purged_group_at 4) 0) (base_zero b (all_bytes b bytes) room)

pub ruleset zeros = (past_base, all_of)
