-- What holds while deltas are placed, and when no more can be.
use Rattle.std.specs.Prelude.{◌≡◌, false, List, ℕ, ◌≤◌, ◌<◌, length, take}
use Rattle.model.specs.Lists.{◌∈◌}
use Rattle.model.specs.Layout.{capacity}
use Rattle.model.specs.Order.{State, placed_by}
use Rattle.set_table.specs.Table.{deltas_at}
use Rattle.set_readiness.specs.Ready.{ready_in, Placing, Blocks}

-- The first `count` of `order` are placed.
pub record Closing (S : State) (placed blocks order : List ℕ) (count : ℕ) : Type 0 where
  pub size : length order ≡ capacity
  pub few : count ≤ length S.deltas
  pub inside : (i : ℕ) → i ∈ take count order → i < length S.deltas
  pub placing : Placing S placed (deltas_at S.deltas (take count order))
  pub effective : Blocks S blocks (placed_by (deltas_at S.deltas (take count order)))

-- One delta was looked at: it is placed, or it was not ready and nothing changed.
pub record Tried (S : State) (rows counts before : List ℕ) (count i : ℕ) (placed blocks order : List ℕ) (next : ℕ) : Type 0 where
  pub closing : Closing S placed blocks order next
  pub grows : count ≤ next
  pub idle : next ≡ count → (placed ≡ before) × (ready_in rows counts before i ≡ false)

-- What holds where the loop of `pass` tests: those below i were looked at.
pub record Passing (S : State) (rows counts : List ℕ) (count : ℕ) (placed blocks order : List ℕ) (n i : ℕ) : Type 0 where
  pub closing : Closing S placed blocks order n
  pub grows : count ≤ n
  pub idle : n ≡ count → (j : ℕ) → j < i → ready_in rows counts placed j ≡ false

-- All were looked at: where none was placed, none is ready.
pub record Passed (S : State) (rows counts : List ℕ) (count : ℕ) (placed blocks order : List ℕ) (next : ℕ) : Type 0 where
  pub closing : Closing S placed blocks order next
  pub grows : count ≤ next
  pub idle : next ≡ count → (i : ℕ) → i < length S.deltas → ready_in rows counts placed i ≡ false

-- None is ready any more, by the marks of what is placed.
pub record Closed (S : State) (rows counts blocks order : List ℕ) (count : ℕ) : Type 0 where
  pub placed : List ℕ
  pub closing : Closing S placed blocks order count
  pub idle : (i : ℕ) → i < length S.deltas → ready_in rows counts placed i ≡ false
