-- What the log is computed from: rows of needs, and keys.
use Rattle.std.specs.Prelude.{◌≡◌, List, [], ℕ, ◌*◌, ◌<◌, length, get_or}
use Rattle.model.specs.Lists.{◌∈◌}
use Rattle.model.specs.Layout.{capacity}
use Rattle.model.specs.Message.{Message}
use Rattle.model.specs.Order.{State, Executable, stated_priority, key_of, less}
use Rattle.message_header.specs.Header.{header_of}
use Rattle.log_key.specs.Key.{key_size, header_key, key_in}
use Rattle.set_needs.specs.Rows.{RowsRight}

abbrev pub Keyed : List ℕ → Type 0
Keyed keys = length keys ≡ key_size * capacity

-- Indices of a table.
abbrev pub InTable : List ℕ → List ℕ → Type 0
InTable starts indices = (i : ℕ) → i ∈ indices → i < length starts

-- The keys at these indices, each of its delta with the block beside it and the priority that it states.
pub record KeysMade (l : List Message) (blocks indices keys : List ℕ) : Type 0 where
  pub size : Keyed keys
  pub made : (i : ℕ) → i ∈ indices → key_in keys i ≡ header_key (get_or blocks i 0) (stated_priority (get_or l i [])) (header_of (get_or l i []))

-- The keys of executable deltas are compared as the definitions' keys are.
pub record KeysRight (S : State) (keys : List ℕ) : Type 0 where
  pub size : Keyed keys
  pub compared : (i j : ℕ) → i < length S.deltas → j < length S.deltas → Executable S (get_or S.deltas i []) → Executable S (get_or S.deltas j [])
      → less (key_in keys i) (key_in keys j) ≡ less (key_of S (get_or S.deltas i [])) (key_of S (get_or S.deltas j []))

pub record PreparedRight (S : State) (rows counts keys : List ℕ) : Type 0 where
  pub needs : RowsRight S rows counts
  pub keyed : KeysRight S keys
