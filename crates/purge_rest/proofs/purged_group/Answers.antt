-- The group that the pool has, and the highest of the deltas that go.
use Rattle.std.proofs.Common.{sym, ◌∙◌, ap₂, arith, max}
use Rattle.laws_origin.specs.OriginLaws.{group_in, header_room}
use Rattle.set_table.specs.Table.{deltas_of, deltas_at, set_in}
use Rattle.purge_rest.specs.RestLaws.{first_inside, group_past}
use Rattle.purge_rest.proofs.purged_group.Goals as goal

pub get_u32-purged-requires : goal.get_u32-purged-requires
get_u32-purged-requires c = omega (arith, header_room c.args.pool.now c.requires.log.holds.right)

pub highest_group-requires : goal.highest_group-requires
highest_group-requires c = first_inside _ _ _ c.requires

pub returns : goal.returns
returns c =
    let pool = c.args.pool.now in
    let starts = c.args.starts.now in
    c.max.ensures ∙ ap₂ max (c.get_u32-purged.ensures ∙ sym (group_in pool)) c.highest_group.ensures.0
    ∙ sym (group_past (set_in pool starts) (deltas_at (deltas_of pool starts) c.args.gone.now))
