-- Sequences by index, and the index of a sequence among them.
use Rattle.std.specs.Prelude.{◌≡◌, cond, List, [], ◌∷◌, map, ℕ, suc, ◌≤◌, ◌<◌, length, get_or, take, eqb}
use Rattle.model.specs.Layout.{capacity}
use Rattle.model.specs.Message.{Message}
use Rattle.model.specs.Order.{sequences_of}
use Rattle.message_sequence.specs.declared.Sequence.{Sequence}
use Rattle.message_sequence.specs.Sequence.{sequence_number}

abbrev pub Ascends : List ℕ → Type 0
Ascends names = (i j : ℕ) → i < j → j < length names → get_or names i 0 < get_or names j 0

-- What an index is found among: no more sequences than a table has, ascending.
pub record Searchable (sequences : List Sequence) : Type 0 where
  pub few : length sequences ≤ capacity
  pub ascends : Ascends (map sequence_number sequences)

-- stands for a sequence that is not there
abbrev pub missing : ℕ
missing = capacity

-- The index of a number, the first one's being i.
abbrev pub index_from : ℕ → List ℕ → ℕ → ℕ
index_from i [] s = missing
index_from i (x ∷ names) s = cond (eqb x s) i (index_from (suc i) names s)

unfoldable pub index_of : List ℕ → ℕ → ℕ
index_of names s = index_from 0 names s

-- The first of them are the deltas' sequences.
pub record SequencesRight (l : List Message) (sequences : List Sequence) : Type 0 where
  pub size : length sequences ≡ capacity
  pub names : map sequence_number (take (length l) sequences) ≡ sequences_of l
