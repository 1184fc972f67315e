-- The delta that comes next: what is looked for, and what that is to be.
use Rattle.std.specs.Prelude.{Option as Found, Some, None, ◌≡◌, true, false, List, [], ℕ, ◌≤◌, ◌<◌, length, get_or}
use Rattle.std.proofs.Math.Option.{Option, some, none}
use Rattle.model.specs.Lists.{keep}
use Rattle.model.specs.Message.{Message}
use Rattle.model.specs.Listing as L
use Rattle.model.specs.Order.{State, placed_by, ready, key_of, less}
use Rattle.set_needs.specs.Rows.{RowFits}
use Rattle.set_readiness.specs.Ready.{marks_size, is_placed, ready_in, Placing}

-- Each is an index that has a mark, and a row.
abbrev pub Marked : List ℕ → Type 0
Marked sorted = (q : ℕ) → q < length sorted → get_or sorted q 0 < marks_size

pub record Lookable (rows counts sorted : List ℕ) : Type 0 where
  pub marked : Marked sorted
  pub rows_fit : (q : ℕ) → q < length sorted → RowFits rows counts (get_or sorted q 0)

-- All from `from` on, before r, are placed.
abbrev pub Skips : List ℕ → List ℕ → ℕ → ℕ → Type 0
Skips sorted placed from r = (q : ℕ) → from ≤ q → q < r → is_placed placed (get_or sorted q 0) ≡ true

-- The first from `from` on that is ready.
abbrev pub FirstReady : List ℕ → List ℕ → List ℕ → List ℕ → ℕ → Found ℕ → Type 0
FirstReady rows counts sorted placed from (Some i) =
    (q : ℕ) × (q < length sorted) × (get_or sorted q 0 ≡ i) × (ready_in rows counts placed i ≡ true)
    × ((a : ℕ) → from ≤ a → a < q → ready_in rows counts placed (get_or sorted a 0) ≡ false)
FirstReady rows counts sorted placed from None = (a : ℕ) → from ≤ a → a < length sorted → ready_in rows counts placed (get_or sorted a 0) ≡ false

-- ---- what it is to be
abbrev pub delta_of : List Message → Found ℕ → Option Message
delta_of l (Some i) = some (get_or l i [])
delta_of l None = none

abbrev pub Within : State → Found ℕ → Type 0
Within S (Some i) = i < length S.deltas
Within S None = Unit {0}

-- The one of the lowest key of those that are ready after the placed sequences.
pub record Picks (S : State) (done : List ℕ) (r : Found ℕ) : Type 0 where
  pub lowest : delta_of S.deltas r ≡ L.lowest_of (key_of S) less (keep (ready S done) S.deltas)
  pub within : Within S r

-- The same, whatever deltas are placed.
abbrev pub NextRight : State → List ℕ → Found ℕ → Type 0
NextRight S placed r = (l : List Message) → Placing S placed l → Picks S (placed_by l) r
