-- The judgement of the station is the test of the definition.
use Rattle.std.specs.Prelude.{Err}
use Rattle.std.proofs.Common.{sym, ◌∙◌, ap}
use Rattle.std.proofs.lemmas.Result.{err_from_is_err_and}
use Rattle.model.specs.Image.{is_image}
use Rattle.refusals.specs.declared.Refusal.TheVariants.{NoImage}
use Rattle.refusals.specs.Refusals.{checked}
use Rattle.laws_order.specs.TestLaws.{is_true}
use Rattle.read_checks.proofs.check_image.Goals as goal

pub returns-in_err-read_station : goal.returns-in_err-read_station
returns-in_err-read_station c =
    let p = err_from_is_err_and c.from_residual.result c.from_residual.ensures.1 in
    p.1 ∙ ap Err (p.2 ∙ c.in_err-read_station.ensures.0) ∙ ap (checked NoImage) (sym c.in_err-read_station.ensures.1)

pub returns : goal.returns
returns c = ap (checked NoImage) (sym (is_true (is_image c.args.image.now) c.in_ok-read_station.ensures.image))
