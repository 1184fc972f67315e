-- The number that is answered is that of what deliver answered, whose counts are small.
use Rattle.bivamolune_packing.proofs.AnswerLaws.{small, delivers}
use Rattle.bivamolune.proofs.bivamolune_deliver.Goals as goal

pub pack_delivery-requires : goal.pack_delivery-requires
pack_delivery-requires c = small c.args.image.now c.args.message.now c.args.steps.now c.deliver.result _ _ c.deliver.ensures

pub returns : goal.returns
returns c = delivers c.args.image.now c.args.message.now c.args.steps.now c.deliver.result c.pack_delivery.result _ _ c.deliver.ensures c.pack_delivery.ensures
