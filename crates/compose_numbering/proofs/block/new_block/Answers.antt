-- One more than the highest of the log and of what was purged, with the flag.
use Rattle.std.proofs.Common.{sym, ◌∙◌, suc, ap, ap₂, arith, add-one, max, eq-eqb}
use Rattle.model.specs.Image.{origin_in}
use Rattle.model.specs.Compose.{highest_block, new_block}
use Rattle.laws_origin.specs.OriginLaws.{block_limit, block_in, header_room}
use Rattle.set_table.specs.Table.{set_in}
use Rattle.compose_numbering.proofs.block.new_block.Goals as goal

pub get_u32-purged-requires : goal.get_u32-purged-requires
get_u32-purged-requires c = omega (arith, header_room c.args.pool.now c.requires.holds.right)

pub overflow_add-result : goal.overflow_add-result
overflow_add-result c =
    let pool = c.args.pool.now in
    omega (arith, c.max.ensures, c.highest_block.ensures.1, c.get_u32-purged.ensures, block_in pool, block_limit (origin_in pool) c.requires.holds.right)

pub returns : goal.returns
returns c =
    let set = set_in c.args.pool.now c.args.starts.now in
    add-one c.max.result
    ∙ ap suc (c.max.ensures ∙ ap₂ max (c.get_u32-purged.ensures ∙ sym (block_in c.args.pool.now)) (c.highest_block.ensures.0 ∙ ap (highest_block set) c.requires.log))
    ∙ sym (ap (new_block set) (eq-eqb c.args.flag 1 c.if-flag-ne1.false))
