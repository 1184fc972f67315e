-- The parts up to k are right: the text is exactly if those from k on are.
use Rattle.std.proofs.Common.{◌≡◌}
use Rattle.model.specs.Text.{text_right}
use Rattle.text_checks.proofs.Parts.{right_from}
use Rattle.text_checks.proofs.forms.check_text.Given as goal

abbrev pub invariant-loop-k : goal.invariant-loop-k
invariant-loop-k l = text_right l.text ≡ right_from l.text l.k
