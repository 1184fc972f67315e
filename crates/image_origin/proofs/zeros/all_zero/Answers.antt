-- The bytes are folded from the front.
use Rattle.std.proofs.Common.{rules, tests, Bool, true, ◌&&◌, ℕ, eqb}
use Rattle.std.proofs.lemmas.Iterator.{YieldsList-from_slice}
use Rattle.std.proofs.lemmas.Iterator.Consumers.{fold_from_yields_List}
use Rattle.image_origin.proofs.Places.{every_fold}
use Rattle.image_origin.proofs.zeros.all_zero.Goals as goal

pub returns : goal.returns
returns c =
    let answer = fold_from_yields_List _ (λ (t : Bool) (x : ℕ). t && eqb x 0) true c.fold.result c.fold.ensures.ran (YieldsList-from_slice c.args.b.now cc) (λ a x b q k. search (rules, tests)) in
    let all = every_fold (λ x. eqb x 0) true c.args.b.now in
    cc
