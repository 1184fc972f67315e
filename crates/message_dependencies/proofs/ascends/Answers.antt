-- The places that are looked at are those of the dependencies.
use Rattle.std.proofs.Common.{rules, tests, arith, ℕ, ◌-◌, ltb, get_or}
use Rattle.std.proofs.lemmas.Iterator.{YieldsList-from_range}
use Rattle.std.proofs.lemmas.Iterator.Search.{all_from_yields_List}
use Rattle.model.specs.Message.{dependencies_of}
use Rattle.message_dependencies.specs.DependencyLaws.{length_dependencies}
use Rattle.message_dependencies.proofs.Places.{ascending_places}
use Rattle.message_dependencies.proofs.ascends.Goals as goal

pub returns : goal.returns
returns c =
    let named = dependencies_of c.args.m.now in
    let count = c.byte-count.result in
    let answer = all_from_yields_List (λ (k : ℕ). ltb (get_or named (k - 1) 0) (get_or named k 0)) _ _ c.all.result c.all.ensures.ran (YieldsList-from_range 1 count (count - 1) (search rules) (omega arith)) (λ x b q k. search (rules, tests)) in
    let all = ascending_places named 0 (count - 1) (omega (arith, length_dependencies c.args.m.now)) in
    cc
