-- What is promised of the program's answer: the definitions' code, and what is printed at the front of the output, the rest unchanged.
use Rattle.std.specs.Prelude.{◌≡◌, List, ℕ, ◌≤◌, length, take}
use Rattle.model.specs.Calls.{written, Converted}
use Rattle.model.specs.Program.{without_line_feed, Printed}

unfoldable pub put_at_front : Printed → List ℕ → Converted
put_at_front p entry = record { code = p.code; size = length p.output; buffer = written p.output entry }

pub record LineSize (input : List ℕ) (size : ℕ) : Type 0 where
  pub inside : size ≤ length input
  pub line : take size input ≡ without_line_feed input
