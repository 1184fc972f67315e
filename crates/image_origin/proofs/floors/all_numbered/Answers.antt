-- The places that are looked at are those of the floors.
use Rattle.std.proofs.Common.{rules, tests, arith, ◌≡◌, ◌≤◌, ℕ, length, get_or}
use Rattle.std.proofs.iter.Serving.{serving}
use Rattle.std.proofs.lemmas.Iterator.{YieldsList-from_range}
use Rattle.std.proofs.lemmas.Iterator.Search.{all_from_yields_List}
use Rattle.model.specs.Message.{numbered}
use Rattle.model.specs.Image.{floor_count, messages_start_in, floors_in}
use Rattle.laws_origin.specs.OriginLaws.{floors_length}
use Rattle.image_origin.specs.OriginParts.{counted_start}
use Rattle.image_origin.proofs.Places.{every_places}
use Rattle.image_origin.proofs.floors.all_numbered.Goals as goal

pub all-requires-clause-callable : goal.all-requires-clause-callable
all-requires-clause-callable c =
    let room : messages_start_in c.args.b.now ≤ length c.args.b.now = counted_start c.requires in
    let count : c.args.count ≡ floor_count c.args.b.now = c.requires.is in
    grind serving

pub returns : goal.returns
returns c =
    let floors = floors_in c.args.b.now in
    let count = c.args.count in
    let answer = all_from_yields_List (λ (k : ℕ). numbered (get_or floors k 0)) _ _ c.all.result c.all.ensures.ran (YieldsList-from_range 0 count count (search rules) (omega arith)) (λ x b q k. search (rules, tests)) in
    let all = every_places numbered floors 0 count (omega (arith, floors_length c.args.b.now, c.requires.is)) in
    cc
