-- The answer is that of the characters seen so far, and of those that are left.
use Rattle.std.proofs.Common.{◌≡◌, ◌&&◌, drop}
use Rattle.model.specs.Lists.{every}
use Rattle.model.specs.Program.{printable}
use Rattle.sequences_forms.proofs.lines.is_printable.Given as goal

abbrev pub invariant-loop-c : goal.invariant-loop-c
invariant-loop-c l = every printable l.line ≡ l.ok && every printable (drop l.c-index l.line)
