-- What the checks behind the judgement tell.
use Rattle.std.proofs.Common.{rules, ◌∙◌}
use Rattle.compose.proofs.Refused.{station_image, wrong_layout, wrong_content, none_refused, wrong_size, no_image}
use Rattle.compose.proofs.compose.Goals as goal

pub returns-in_default : goal.returns-in_default
returns-in_default c = wrong_size c.args.image.now c.args.line.now c.args.commands.now c.args.flag c.args.priority c.args.message.now (search rules) _ c.in_default.ensures

pub returns-in_default-read_station : goal.returns-in_default-read_station
returns-in_default-read_station c = no_image c.args.image.now c.args.line.now c.args.commands.now c.args.flag c.args.priority c.args.message.now (search rules) c.in-Ok.ensures _ c.in_default-read_station.ensures

pub returns-in_default-commands_sized : goal.returns-in_default-commands_sized
returns-in_default-commands_sized c =
    wrong_layout c.args.image.now c.args.line.now c.args.commands.now c.args.flag c.args.priority c.args.message.now (search rules) c.in-Ok.ensures (search (rules, station_image)) _ c.in_default-commands_sized.ensures

pub returns-in_default-check_content : goal.returns-in_default-check_content
returns-in_default-check_content c =
    wrong_content c.args.image.now c.args.line.now c.args.commands.now c.args.flag c.args.priority c.args.message.now (search rules) c.in-Ok.ensures (search (rules, station_image)) c.in-Ok-commands_sized.ensures _ c.in_default-check_content.ensures

pub returns : goal.returns
returns c =
    c.compose_at.ensures
    ∙ none_refused c.args.image.now c.args.line.now c.args.commands.now c.args.flag c.args.priority c.args.message.now (search rules) c.in-Ok.ensures (search (rules, station_image)) c.in-Ok-commands_sized.ensures c.in-Ok-check_content.ensures
