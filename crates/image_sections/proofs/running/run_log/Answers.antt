-- Each delta of a table passes.
use Rattle.std.proofs.Common.{arith}
use Rattle.image_sections.specs.LogPlaceLaws.{delta_passes}
use Rattle.image_sections.proofs.running.run_log.Goals as goal

pub run_message-next-requires : goal.run_message-next-requires
run_message-next-requires c = delta_passes c.args.pool.now c.args.starts.now c.args.places.now c.requires c.delta_at-m.ensures (omega arith)
