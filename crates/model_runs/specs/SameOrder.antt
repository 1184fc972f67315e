-- Which of two deltas stands before the other in a log, a list of sequences (document 02, Paper 5).
use Rattle.std.specs.Prelude.{◌≡◌, ◌⊎◌, ◌↔◌, List, [], ◌∷◌, ℕ}
use Rattle.model.specs.Lists.{◌∈◌}

-- The first stands somewhere in the list, and the second somewhere behind it.
abbrev pub Before : ℕ → ℕ → List ℕ → Type 0
Before s t [] = ⊥
Before s t (x ∷ l) = ((s ≡ x) × (t ∈ l)) ⊎ Before s t l

-- "two deltas that were both in the log before still stand in the same order to each other": with whatever between them. So, of an old
-- log without repeats, neither of two is lost and neither stands twice. (That the only delta of a log stays it does not say.)
abbrev pub SameOrder : List ℕ → List ℕ → Type 0
SameOrder old new = (s t : ℕ) → s ∈ old → t ∈ old → Before s t new ↔ Before s t old
