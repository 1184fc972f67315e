-- The digits that stand from the first on are the number.
use Rattle.program_decimal.specs.DigitLaws.{numeral_few}
use Rattle.program_decimal.specs.PutsLaws.{puts_as}
use mathlib.Core.Path.{◌∙◌}
use mathlib.Core.List.{List}
use Prim.Native.Nat.{ℕ, ◌-◌, ◌≤◌}
use native.Mathlib.Omega.{arith}
use lib.ListN.{length, drop, length-drop}
use lib.Seq.{take_all}
use Rattle.program_decimal.specs.Puts.{digits_room}
use borrow.Author.Rules.{rules}
use Rattle.program_decimal.proofs.digits.put_decimal.Statement.{statement}
use Rattle.program_decimal.proofs.digits.put_decimal.Tie as tie

returns : tie.Need-returns
returns c =
    let text : List ℕ = c.spell-first.new.text in
    let first : ℕ = c.spell-first.result in
    let all : length (drop first text) ≤ digits_room - first = omega (arith, length-drop first text, c.spell-first.auto.text) in
    puts_as (take_all (digits_room - first) (drop first text) all ∙ c.spell-first.ensures.1) (numeral_few _) c.put_text.ensures

pub put_decimal_spec : {M : Type 1} → statement M
put_decimal_spec =
    tie.close
    (tie.spec
    (λ c. search rules)
    (λ c κs. search rules)
    (λ c. search rules)
    (λ c. search rules)
    (λ c. search rules)
    (λ c κs. search rules)
    (λ c. search rules)
    returns)
