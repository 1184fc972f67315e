-- The commands that are printed, with those that are left, are all.
use Rattle.print_log_commands.specs.Commands.{Putting}
use Rattle.print_log_commands.proofs.put_commands.Given as goal

abbrev pub invariant-loop-k : goal.invariant-loop-k
invariant-loop-k l = Putting l.commands l.fn.out l.fn.at l.out l.next l.k
