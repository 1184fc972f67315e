-- The sequences up to k have numbers: all have exactly if those from k on have.
use Rattle.std.proofs.Common.{◌≡◌}
use Rattle.model.specs.Text.{all_numbered}
use Rattle.text_checks.proofs.Numbers.{numbered_from}
use Rattle.text_checks.proofs.check_numbers.Given as goal

abbrev pub invariant-loop-k : goal.invariant-loop-k
invariant-loop-k l = numbered_from l.sequences l.k ≡ all_numbered l.sequences
