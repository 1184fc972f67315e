-- Which answer the count of what was found gives.
use Rattle.std.proofs.Common.{rules, ◌∙◌}
use Rattle.compose_message.proofs.Drafts.{many, few_named}
use Rattle.compose_message.proofs.drafted.write_draft.Goals as goal

pub returns-in_default : goal.returns-in_default
returns-in_default c =
    let fact = many c.args.pool.now c.args.starts.now c.args.places.now c.args.commands.now c.args.message.now c.requires c.args.draft c.find_dependencies-found.result c.find_dependencies-found.ensures (search rules) _ c.in_default.ensures in
    search rules

pub returns : goal.returns
returns c =
    c.write_drafted.ensures
    ∙ few_named c.args.pool.now c.args.starts.now c.args.places.now c.args.commands.now c.args.message.now c.requires c.args.draft c.find_dependencies-found.result c.find_dependencies-found.ensures (search rules) c.in-Ok.ensures
