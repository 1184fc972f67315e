-- A held delta on the line, and a limit that is passed.
use Rattle.set_table.specs.Table.{set_in}
use Rattle.compose_message.proofs.Late.{held, past}
use Rattle.compose_message.proofs.compose_behind.Goals as goal

pub returns-in_default : goal.returns-in_default
returns-in_default c =
    let a = c.args in
    held a.line.now a.commands.now a.flag a.priority a.message.now c.requires.1 c.read_line-first.result c.read_line-first.ensures (set_in a.pool.now a.starts.now) _ c.in_default.ensures

pub returns-in_default-draft_delta : goal.returns-in_default-draft_delta
returns-in_default-draft_delta c =
    let a = c.args in
    past a.line.now a.commands.now a.flag a.priority a.message.now c.requires.1 c.read_line-first.result c.read_line-first.ensures (set_in a.pool.now a.starts.now) c.in-Ok.ensures _ c.in_default-draft_delta.ensures
