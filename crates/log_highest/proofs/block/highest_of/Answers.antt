-- Each place has a block.
use Rattle.set_table.specs.PlaceLaws.{below_at}
use Rattle.log_highest.proofs.block.highest_of.Goals as goal

pub bounds-blocks-place : goal.bounds-blocks-place
bounds-blocks-place c = below_at _ _ c.requires _ c.loop-place-test.true
