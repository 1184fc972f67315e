use Rattle.compose_message.proofs.Drafts.{is_written}
use Rattle.compose_message.proofs.drafted.write_drafted.Goals as goal

pub returns : goal.returns
returns c = is_written c.args.pool.now c.args.starts.now c.args.draft c.args.found c.args.commands.now c.args.message.now c.requires _ _ c.write_message.ensures
