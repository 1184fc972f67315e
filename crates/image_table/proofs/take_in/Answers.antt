-- A sequence that is found is there already; another one's message joins those that are there.
use Rattle.std.proofs.Common.{refl, rules, arith, length-take-le}
use Rattle.image_table.proofs.Taking.{found_unfit, joins}
use Rattle.image_table.proofs.take_in.Goals as goal

pub returns-in_default : goal.returns-in_default
returns-in_default c = (refl, found_unfit _ _ c.requires.3 c.in_default.ensures)

pub returns : goal.returns
returns c =
    let fits = length-take-le c.args.count c.args.starts.now (omega arith) in
    joins _ _ c.requires.3 c.insert_start.ensures (search rules) c.requires.2 (omega (arith, fits)) (grind arith)
