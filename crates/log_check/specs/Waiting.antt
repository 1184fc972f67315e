-- From where on a delta was ready, and whether one of the first deltas is.
use Rattle.std.specs.Prelude.{◌≡◌, Bool, true, false, List, ℕ, ◌≤◌, ◌<◌}
use Rattle.model.specs.Layout.{capacity}
use Rattle.set_needs.specs.Rows.{RowFits}
use Rattle.set_readiness.specs.Ready.{ready_in, greatest_along}

-- The greatest of what `ends` has for its needs; the first place where it needs nothing.
abbrev pub ready_from : List ℕ → List ℕ → List ℕ → ℕ → ℕ
ready_from rows counts ends i = greatest_along rows counts ends i 0

pub record AllFit (rows counts : List ℕ) (count : ℕ) : Type 0 where
  pub few : count ≤ capacity
  pub rows_fit : (i : ℕ) → i < count → RowFits rows counts i

abbrev pub AnyReady : List ℕ → List ℕ → List ℕ → ℕ → Bool → Type 0
AnyReady rows counts placed count true = (i : ℕ) × (i < count) × (ready_in rows counts placed i ≡ true)
AnyReady rows counts placed count false = (i : ℕ) → i < count → ready_in rows counts placed i ≡ false
