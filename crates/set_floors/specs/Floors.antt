-- What a search among floors knows, and what it ends with.
use Rattle.std.specs.Prelude.{List, ℕ, ◌≤◌, ◌<◌, length, get_or}

-- The floors before `low` are below a sequence, those from `high` on are not.
pub record Halves (floors : List ℕ) (s low high : ℕ) : Type 0 where
  pub ordered : low ≤ high
  pub inside : high ≤ length floors
  pub before : (k : ℕ) → k < low → get_or floors k 0 < s
  pub after : (k : ℕ) → high ≤ k → k < length floors → s ≤ get_or floors k 0

-- The place of the first floor that is not below a sequence; the place past all floors where there is none.
abbrev pub IsFirst : List ℕ → ℕ → ℕ → Type 0
IsFirst floors s p = Halves floors s p p
