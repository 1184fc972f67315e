-- The digits that are still to come, with those that stand at the end of the text, are the number's.
use Rattle.std.proofs.Common.{◌≡◌, ◌++◌, length, drop}
use Rattle.model.specs.Program.{digits}
use Rattle.program_decimal.specs.Puts.{digits_room, numeral}
use Rattle.program_decimal.proofs.digits.spell.Given as goal

abbrev pub invariant-loop-first : goal.invariant-loop-first
invariant-loop-first l = (length l.text ≡ digits_room) × (digits l.first l.rest ++ drop l.first l.text ≡ numeral l.x)
