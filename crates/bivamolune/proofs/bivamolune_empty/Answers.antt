-- The code that is answered is that of what empty answered.
use Rattle.bivamolune_packing.proofs.AnswerLaws.{empties}
use Rattle.bivamolune.proofs.bivamolune_empty.Goals as goal

pub returns : goal.returns
returns c = empties c.args.image.now c.empty.result c.pack_code.result _ c.empty.ensures c.pack_code.ensures
