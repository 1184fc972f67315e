-- What was found under the sequence, and what the checks of 7 and 8 told, are the cases of the definition.
use Rattle.std.proofs.Common.{rules, not, sym, ◌∙◌, ltb, ltb-true}
use Rattle.model.specs.Layout.{capacity}
use Rattle.model.specs.Codes.{conflicts}
use Rattle.refusals.specs.Refusals.{passed, failed}
use Rattle.refusals.specs.declared.Refusal.TheVariants.{Conflict, Full}
use Rattle.set_table.specs.Table.{starts_of, set_in}
use Rattle.deliver_taking.specs.PlaceCases.{conflict, repeated, filled, joins}
use Rattle.deliver_taking.proofs.above.take_above.Goals as goal

pub returns-in_default : goal.returns-in_default
returns-in_default c =
    let wrong = failed Conflict _ (not (conflicts (set_in c.args.image.now (starts_of c.args.station.table)) c.args.message.now)) c.in_default.ensures in
    conflict c.args.image.now c.args.message.now c.args.steps.now c.args.pool.now c.args.station c.requires.0 (sym wrong)

pub returns-in_default-place : goal.returns-in_default-place
returns-in_default-place c =
    repeated _ _ _ _ _ c.requires.0 c.requires.2 (rw (c.requires.1, c.in_default-place.is) at c.find-place.ensures)
    (sym (passed Conflict (not (conflicts (set_in c.args.image.now (starts_of c.args.station.table)) c.args.message.now)) c.in-Ok.ensures))

pub returns-in_default-check_room : goal.returns-in_default-check_room
returns-in_default-check_room c =
    let wrong = failed Full _ (ltb c.args.station.table.count capacity) c.in_default-check_room.ensures in
    filled c.args.image.now c.args.message.now c.args.steps.now c.args.pool.now c.args.station c.requires.0 c.requires.2 (rw (c.requires.1, c.in-Err.is) at c.find-place.ensures) (search rules) (sym wrong)

pub returns : goal.returns
returns c =
    c.accept.ensures ∙ joins _ _ _ _ _ c.requires.0 c.requires.2 (rw (c.requires.1, c.in-Err.is) at c.find-place.ensures) (search rules) (ltb-true _ capacity (passed Full (ltb c.args.station.table.count capacity) c.in-Ok-check_room.ensures))
