-- A message ends where those behind it begin.
use Rattle.std.proofs.Common.{arith}
use Rattle.set_table.specs.Table.{deltas_of}
use Rattle.image_sections.specs.LogPlaceLaws.{place_inside}
use Rattle.image_sections.proofs.Copying.{left_size}
use Rattle.purge_rest.proofs.end_of.Goals as goal

pub message_at-m-requires : goal.message_at-m-requires
message_at-m-requires c = (c.requires.0.holds, place_inside _ _ _ c.requires.0 _ c.loop-place-test.true)

pub overflow_add-at : goal.overflow_add-at
overflow_add-at c = omega (arith, left_size (deltas_of c.args.pool.now c.args.starts.now) c.args.places.now _ c.loop-place-test.true _ c.message_at-m.ensures)

pub loop-place-preserved : goal.loop-place-preserved
loop-place-preserved c = omega (arith, left_size (deltas_of c.args.pool.now c.args.starts.now) c.args.places.now _ c.loop-place-test.true _ c.message_at-m.ensures)
