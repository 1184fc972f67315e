-- The code that is answered is that of what purge answered.
use Rattle.bivamolune_packing.proofs.AnswerLaws.{purges}
use Rattle.bivamolune.proofs.bivamolune_purge.Goals as goal

pub returns : goal.returns
returns c = purges c.args.image.now c.args.k c.purge.result c.pack_code.result _ c.purge.ensures c.pack_code.ensures
