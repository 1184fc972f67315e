-- Each place is one of the table's; its sequence's line is looked at.
use Rattle.std.proofs.Common.{rules, tests, arith, ◌<◌, ◌∙◌, ℕ, length, eqb}
use Rattle.std.proofs.lemmas.List.{get_or_default}
use Rattle.std.proofs.lemmas.Iterator.{YieldsList-from_slice}
use Rattle.std.proofs.lemmas.Iterator.Adapters.{serves_from_places}
use Rattle.std.proofs.lemmas.Iterator.Search.{any_from_yields_List}
use Rattle.model.specs.Message.{line_of}
use Rattle.message_sequence.specs.Sequence.{sequence_number}
use Rattle.set_table.specs.Table.{deltas_of}
use Rattle.set_table.specs.Places.{sequence_in}
use Rattle.image_sections.specs.LogPlaceLaws.{place_inside}
use Rattle.compose_line.proofs.OnLine.{some_places}
use Rattle.compose_line.proofs.some_on.Goals as goal

pub any-requires-clause-callable : goal.any-requires-clause-callable
any-requires-clause-callable c =
    serves_from_places (YieldsList-from_slice c.args.places.now cc) (λ x q r. search (rules, tests)) (λ x k h e.
    let inside : x.now < length c.args.starts.now = omega (arith, e, get_or_default c.args.places.now k x.now 0 h, place_inside _ _ _ c.requires k h) in
    let holds = c.requires.holds in search rules)

pub returns : goal.returns
returns c =
    let line = line_of (sequence_number c.args.line) in
    let deltas = deltas_of c.args.pool.now c.args.starts.now in
    any_from_yields_List (λ (i : ℕ). eqb (line_of (sequence_in c.args.pool.now c.args.starts.now i)) line) _ _ c.any.result c.any.ensures.ran (YieldsList-from_slice c.args.places.now cc) (λ x b q k. search (rules, tests))
    ∙ some_places deltas line c.args.places.now
