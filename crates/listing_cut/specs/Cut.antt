-- What a cut of the input is.
use Rattle.std.specs.Prelude.{◌≡◌, true, false, Option, Some, None, List, ℕ, ◌≤◌, length}
use Rattle.model.specs.Bytes.{field}
use Rattle.model.specs.Layout.{length_at, shortest_cut}
use Rattle.model.specs.Program.{bad_cut}

-- The size that the length field of what is left names.
abbrev pub size_of : List ℕ → ℕ
size_of rest = field rest length_at 2

-- A right cut, of a size.
pub record RightCut (rest : List ℕ) (size : ℕ) : Type 0 where
  pub named : size ≡ size_of rest
  pub right : bad_cut rest ≡ false
  pub short : shortest_cut ≤ size
  pub inside : size ≤ length rest

abbrev pub IsCut : List ℕ → Option ℕ → Type 0
IsCut rest (Some size) = RightCut rest size
IsCut rest None = bad_cut rest ≡ true
