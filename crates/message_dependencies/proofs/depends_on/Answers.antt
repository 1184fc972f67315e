-- The places that are looked at are those of the dependencies.
use Rattle.std.proofs.Common.{rules, tests, arith, ℕ, eqb, get_or}
use Rattle.std.proofs.lemmas.Iterator.{YieldsList-from_range}
use Rattle.std.proofs.lemmas.Iterator.Search.{any_from_yields_List}
use Rattle.model.specs.Message.{dependencies_of}
use Rattle.message_sequence.specs.Sequence.{sequence_number}
use Rattle.message_dependencies.specs.DependencyLaws.{length_dependencies}
use Rattle.message_dependencies.proofs.Places.{has_places}
use Rattle.message_dependencies.proofs.depends_on.Goals as goal

pub returns : goal.returns
returns c =
    let named = dependencies_of c.args.m.now in
    let own = sequence_number c.args.s in
    let count = c.byte-count.result in
    let answer = any_from_yields_List (λ (k : ℕ). eqb own (get_or named k 0)) _ _ c.any.result c.any.ensures.ran (YieldsList-from_range 0 count count (search rules) (omega arith)) (λ x b q k. search (rules, tests)) in
    let all = has_places own named 0 count (omega (arith, length_dependencies c.args.m.now)) in
    cc
