-- The table's rule, by one test over all 256 characters.
use mathlib.Core.Path.{refl}
use Rattle.model.specs.Text.{digit_of}
use Rattle.text_digits.specs.DigitTable.{has_digits}
use Rattle.text_digits.proofs.digits.Statement.{statement}
use Rattle.text_digits.proofs.digits.Tie as tie

returns : tie.Need-returns
unfolding digit_of
returns c = has_digits _ refl tt

pub digits_spec : {M : Type 1} → statement M
digits_spec = tie.close (tie.spec returns)
