-- Marks of indices.
use Rattle.std.specs.Prelude.{List, [], ◌∷◌, ℕ, set}
use Rattle.model.specs.Lists.{◌∈◌}
use Rattle.set_needs.specs.Rows.{RowFits}

-- Marks with those of more indices.
abbrev pub marked : List ℕ → List ℕ → List ℕ
marked marks [] = marks
marked marks (i ∷ l) = marked (set marks i 1) l

-- The rows of the deltas at some places are there.
abbrev pub RowsFit : List ℕ → List ℕ → List ℕ → Type 0
RowsFit rows counts places = (i : ℕ) → i ∈ places → RowFits rows counts i
