-- Each refusal of the place is the same refusal of the call.
use Rattle.std.specs.Prelude.{Err}
use Rattle.std.proofs.Common.{◌∙◌, ap}
use Rattle.std.proofs.lemmas.Result.{err_from_is_err_and}
use Rattle.read_calls.specs.Parts.{Part}
use Rattle.read_calls.specs.Answers.{lookup_by}
use Rattle.read_calls.proofs.PartCases.{part_code}
use Rattle.read_calls.proofs.log_message.log_message_code.Goals as goal

pub returns-in_err-locate : goal.returns-in_err-locate
returns-in_err-locate c =
    let p = err_from_is_err_and c.from_residual.result c.from_residual.ensures.1 in
    ap lookup_by (p.1 ∙ ap Err p.2) ∙ ap (λ (x : Part). x.code) c.in_err-locate.ensures ∙ part_code c.args.image.now c.args.place

pub returns : goal.returns
returns c = ap (λ (x : Part). x.code) c.in_ok-locate.ensures ∙ part_code c.args.image.now c.args.place
