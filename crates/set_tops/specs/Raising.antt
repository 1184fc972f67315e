-- Where a sequence is raised among tops.
use Rattle.std.specs.Prelude.{◌≡◌, Bool, ◌&&◌, List, ◌++◌, ℕ, ◌≤◌, ◌<◌, length, take, drop, get_or, eqb, ltb}
use Rattle.model.specs.Message.{line_of}
use Rattle.model.specs.Tops.{raise_top}

-- It passes the tops before a place, which stay as they are.
pub record Passes (s : ℕ) (tops : List ℕ) (p : ℕ) : Type 0 where
  pub inside : p ≤ length tops
  pub rest : raise_top s tops ≡ take p tops ++ raise_top s (drop p tops)

-- And it passes no more.
pub record PlaceOf (s : ℕ) (tops : List ℕ) (p : ℕ) : Type 0 where
  pub passes : Passes s tops p
  pub here : p < length tops → line_of s ≤ line_of (get_or tops p 0)

-- Whether there is a top at a place, and it is on the line of a sequence.
abbrev pub on_line : ℕ → List ℕ → ℕ → Bool
on_line s tops p = ltb p (length tops) && eqb (line_of (get_or tops p 0)) (line_of s)
