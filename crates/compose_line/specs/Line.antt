-- Deltas of a line.
use Rattle.std.specs.Prelude.{Bool, List, ℕ, eqb}
use Rattle.model.specs.Lists.{some?}
use Rattle.model.specs.Message.{Message, sequence_of, line_of}

-- whether one of some deltas is on a line
abbrev pub some_on : ℕ → List Message → Bool
some_on line l = some? (λ m. eqb (line_of (sequence_of m)) line) l
