-- The index is one of the table, so that its delta has a header and its key has room; one more key is made.
use Rattle.std.proofs.Common.{arith, get_or}
use Rattle.log_prepared.proofs.Making.{delta_long, making_inside, making_small, making_room, making_more}
use Rattle.log_prepared.proofs.keys.fill_keys.Goals as goal

pub message_at-requires : goal.message_at-requires
message_at-requires c =
    let a = c.args in
    let l = c.loop-index in
    (l.invariant.holds, making_inside a.pool.now a.starts.now a.blocks.now a.indices.now l.index-index l.keys l.invariant (omega arith))

pub read_header-header-requires : goal.read_header-header-requires
read_header-header-requires c =
    let a = c.args in
    let l = c.loop-index in
    delta_long a.pool.now a.starts.now (get_or a.indices.now l.index-index 0) c.message_at.result.now l.invariant.holds
    (making_inside a.pool.now a.starts.now a.blocks.now a.indices.now l.index-index l.keys l.invariant (omega arith)) c.message_at.ensures

pub bounds-blocks-i : goal.bounds-blocks-i
bounds-blocks-i c =
    let a = c.args in
    let l = c.loop-index in
    omega (arith, making_small a.pool.now a.starts.now a.blocks.now a.indices.now l.index-index l.keys l.invariant, c.requires.2)

pub put_key-requires : goal.put_key-requires
put_key-requires c =
    let a = c.args in
    let l = c.loop-index in
    making_room a.pool.now a.starts.now a.blocks.now a.indices.now l.index-index l.keys l.invariant (omega arith)

pub loop-index-preserved : goal.loop-index-preserved
loop-index-preserved c =
    let a = c.args in
    let l = c.loop-index in
    making_more a.pool.now a.starts.now a.blocks.now a.indices.now l.index-index l.keys l.invariant (omega arith)
    c.message_at.result.now c.message_at.ensures c.read_header-header.result c.read_header-header.ensures
    c.make_key-key.result c.make_key-key.ensures _ c.put_key.ensures
