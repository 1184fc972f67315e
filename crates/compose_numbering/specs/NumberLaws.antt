-- A number on a line is a number.
use Rattle.std.specs.Prelude.{Bool, true, false, cond, ℕ, ◌<◌, eqb}
use Rattle.std.proofs.Common.{arith}
use Rattle.model.specs.Layout.{numbers_of_line}
use Rattle.model.specs.Message.{line_of, number_of}
use Rattle.model.specs.Compose.{number_on}

pub number_small : (line s : ℕ) → number_on line s < numbers_of_line
number_small line s = go (eqb (line_of s) line)
  where
    go : (b : Bool) → cond b (number_of s) 0 < numbers_of_line
    go true = omega arith
    go false = omega arith
