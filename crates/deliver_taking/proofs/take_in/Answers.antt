-- The floors decide first: what is at or below one is done with.
use Rattle.std.proofs.Common.{◌≡◌, true, arith}
use Rattle.model.specs.Message.{sequence_of}
use Rattle.model.specs.Order.{purged}
use Rattle.model.specs.Image.{state_in}
use Rattle.laws_order.specs.TestLaws.{true_T}
use Rattle.laws_wire.specs.MessageLaws.{passes_sized, sized_range}
use Rattle.deliver_taking.specs.PlaceCases.{below}
use Rattle.deliver_taking.proofs.take_in.Goals as goal

pub read_sequence-s-requires : goal.read_sequence-s-requires
read_sequence-s-requires c = omega (arith, sized_range c.args.message.now (passes_sized c.args.message.now c.requires.right))

pub returns-then-low : goal.returns-then-low
returns-then-low c =
    let low : purged (state_in c.args.image.now) (sequence_of c.args.message.now) ≡ true = cc in
    below _ _ _ _ _ c.requires (true_T _ low)
