-- The commands up to k are right: all are exactly if those from k on are.
use Rattle.std.proofs.Common.{◌≡◌}
use Rattle.message_commands.specs.CommandTests.{commands_right}
use Rattle.message_commands.proofs.Rest.{right_from}
use Rattle.message_commands.proofs.check_commands.Given as goal

abbrev pub invariant-loop-k : goal.invariant-loop-k
invariant-loop-k l = right_from l.c l.k ≡ commands_right l.c
