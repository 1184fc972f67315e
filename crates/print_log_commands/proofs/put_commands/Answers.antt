-- The commands that are printed, with those that are left, are all: at first, after one more, and in the end.
use Rattle.std.proofs.Common.{arith}
use Rattle.print_log_commands.specs.CommandLaws.{putting_first, putting_next, putting_end}
use Rattle.print_log_commands.proofs.put_commands.Goals as goal

pub loop-k-init : goal.loop-k-init
loop-k-init c = putting_first c.requires.1

pub loop-k-preserved : goal.loop-k-preserved
loop-k-preserved c =
    putting_next c.loop-k.invariant c.requires.0 (omega arith) c.put_command-next.ensures c.put_command-next.auto.out

pub returns : goal.returns
returns c = putting_end c.loop-k.invariant (omega arith)
