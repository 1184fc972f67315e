-- Needs by index: for each delta of a table a row, one behind the other in equal room.
use Rattle.std.specs.Prelude.{◌≡◌, Bool, not, ◌&&◌, List, [], map, ℕ, suc, ◌+◌, ◌*◌, ◌≤◌, ◌<◌, length, get_or, take, drop, eqb}
use Rattle.std.proofs.Math.Seq.{paste}
use Rattle.model.specs.Lists.{keep}
use Rattle.model.specs.Layout.{capacity, most_dependencies}
use Rattle.model.specs.Message.{Message, needs_of}
use Rattle.model.specs.Tops.{covered}
use Rattle.model.specs.Order.{Origin, State, purged, sequences_of, needs}
use Rattle.set_needs.specs.Names.{missing, index_of}

-- the predecessor and the most dependencies
abbrev pub row_size : ℕ
row_size = suc most_dependencies

-- A delta's row: what it needs, each by the index of its delta.
abbrev pub row_of : State → ℕ → List ℕ
row_of S i = map (index_of (sequences_of S.deltas)) (needs S (get_or S.deltas i []))

-- The row that is written for it.
abbrev pub row_in : List ℕ → List ℕ → ℕ → List ℕ
row_in rows counts i = take (get_or counts i 0) (drop (row_size * i) rows)

-- What is found of a sequence that a message names: that there is no such delta, and that it is at or below a floor.
abbrev pub left_out : Origin → ℕ → ℕ → Bool
left_out O s index = eqb index missing && covered O.floors s

-- A row as it grows, when k of the sequences that a message names were looked at: n of it stand from a place on, and what is left of its
-- needs is what is left of those sequences, without the ones at or below a floor.
pub record RowGrows (before : List ℕ) (at : ℕ) (S : State) (m : Message) (k : ℕ) (after : List ℕ) (n : ℕ) : Type 0 where
  pub row : after ≡ paste before at (map (index_of (sequences_of S.deltas)) (needs S m)) n
  pub rest : drop n (needs S m) ≡ keep (λ s. not (purged S s)) (drop k (needs_of m))
  pub inside : n ≤ length (needs S m)
  pub few : n ≤ k

-- What `fill_row` leaves: a row from a place on.
pub record RowFilled (before : List ℕ) (at : ℕ) (indices after : List ℕ) (count : ℕ) : Type 0 where
  pub row : after ≡ paste before at indices count
  pub length_is : count ≡ length indices
  pub short : count ≤ row_size

-- The row of a delta is short enough for its room, and is this one.
pub record RowIs (rows counts : List ℕ) (i : ℕ) (indices : List ℕ) : Type 0 where
  pub short : get_or counts i 0 ≤ row_size
  pub row : row_in rows counts i ≡ indices

pub record RowsRight (S : State) (rows counts : List ℕ) : Type 0 where
  pub size : length rows ≡ row_size * capacity
  pub counted : length counts ≡ capacity
  pub short : (i : ℕ) → i < length S.deltas → get_or counts i 0 ≤ row_size
  pub row : (i : ℕ) → i < length S.deltas → row_in rows counts i ≡ row_of S i

-- A row is there, and what it holds is an index or missing.
pub record RowFits (rows counts : List ℕ) (i : ℕ) : Type 0 where
  pub here : i < length counts
  pub inside : row_size * i + get_or counts i 0 ≤ length rows
  pub small : (k : ℕ) → k < get_or counts i 0 → get_or rows (row_size * i + k) 0 ≤ missing
