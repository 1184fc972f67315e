-- The part that is handed back is the one that was located, and without one the message is empty.
use Rattle.std.specs.Prelude.{◌≡◌, ℕ, ◌+◌, ◌-◌, take, drop, List, Ok}
use Rattle.std.proofs.Common.{refl, sym, ◌∙◌, ap, subst, arith}
use Rattle.read_calls.specs.declared.answer.Located.{Located}
use Rattle.read_calls.specs.Parts.{log_part}
use Rattle.read_calls.specs.Answers.{part_by}
use Rattle.read_calls.specs.PartCases.{IsPart}
use Rattle.read_calls.proofs.PartCases.{is_part, no_part}
use Rattle.read_calls.proofs.log_message.log_message.Goals as goal

found : (b : List ℕ) (place : ℕ) (part : Located) → part_by (Ok part) ≡ log_part b place → IsPart b place (part_by (Ok part))
found b place part e = subst (IsPart b place) (sym e) (is_part b place)

pub returns-in_default : goal.returns-in_default
returns-in_default c = no_part c.args.image.now c.args.place c.in_default.ensures refl

pub overflow_add-end : goal.overflow_add-end
overflow_add-end c = omega (arith, (found c.args.image.now c.args.place c.in-Ok.part c.in-Ok.ensures).small)

pub slice_bounds-result-end-2 : goal.slice_bounds-result-end-2
slice_bounds-result-end-2 c = let p = found c.args.image.now c.args.place c.in-Ok.part c.in-Ok.ensures in omega (arith, p.inside)

pub returns : goal.returns
returns c =
    let part = c.in-Ok.part in
    let p = found c.args.image.now c.args.place part c.in-Ok.ensures in
    ap (λ (n : ℕ). take n (drop part.offset c.args.image.now)) {x = part.offset + part.size - part.offset} {y = part.size} (omega arith) ∙ p.bytes
