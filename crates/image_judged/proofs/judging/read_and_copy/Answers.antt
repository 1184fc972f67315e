-- A buffer whose origin is wrong, or whose messages can't be walked, is no image.
use Rattle.std.proofs.Common.{refl, ◌∙◌, ap, Err}
use Rattle.std.proofs.lemmas.Result.{err_from_is_err_and}
use Rattle.model.specs.Order.{origin_right}
use Rattle.model.specs.Image.{origin_in}
use Rattle.laws_order.specs.TestLaws.{true_T}
use Rattle.laws_origin.specs.OriginLaws.{room_of}
use Rattle.refusals.specs.Refusals.{passed, failed, refused_as}
use Rattle.refusals.specs.declared.Refusal.TheVariants.{NoImage}
use Rattle.image_walk.proofs.WalkLaws.{walks_wrong}
use Rattle.image_judged.specs.JudgingLaws.{wrong_origin, refused}
use Rattle.image_judged.proofs.judging.read_and_copy.Goals as goal

pub returns-in_err-check_origin : goal.returns-in_err-check_origin
returns-in_err-check_origin c =
    let b = c.args.b.now in
    let p = err_from_is_err_and c.from_residual.result c.from_residual.ensures.1 in
    let right = origin_right (origin_in b) in
    refused b c.args.copy.now c.from_residual.result (p.1 ∙ ap Err (p.2 ∙ refused_as NoImage c.in_err-check_origin.field-0.0 right c.in_err-check_origin.ensures))
    (wrong_origin b (failed NoImage c.in_err-check_origin.field-0.0 right c.in_err-check_origin.ensures))

pub walk_messages-requires : goal.walk_messages-requires
walk_messages-requires c =
    let b = c.args.b.now in
    let right = origin_right (origin_in b) in
    (c.requires.0, room_of b (true_T right (passed NoImage right c.in_ok-check_origin.ensures)))

pub returns-in_err-walk : goal.returns-in_err-walk
returns-in_err-walk c =
    let b = c.args.b.now in
    let why = c.in_err-walk.field-0.0 in
    let p = err_from_is_err_and c.from_residual-in_err-walk.result c.from_residual-in_err-walk.ensures.1 in
    refused b c.args.copy.now c.from_residual-in_err-walk.result (p.1 ∙ ap Err (p.2 ∙ c.in_err-walk.ensures.0)) (walks_wrong b (Err why) why c.in_err-walk.ensures refl)
