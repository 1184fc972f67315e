-- What is ready, by rows of needs and by marks of what is placed; and the greatest of the numbers that stand beside needs.
use Rattle.std.specs.Prelude.{◌≡◌, Bool, false, not, ◌&&◌, List, [], ℕ, suc, ◌<◌, max, length, get_or, eqb}
use Rattle.model.specs.Lists.{◌∈◌, has, every, greatest}
use Rattle.model.specs.Layout.{capacity}
use Rattle.model.specs.Message.{Message}
use Rattle.model.specs.Order.{State, sequences_of, placed_by, Listing, effective_block}
use Rattle.set_needs.specs.Names.{missing}
use Rattle.set_needs.specs.Rows.{row_in}

-- a mark for each delta, and one for what is missing
abbrev pub marks_size : ℕ
marks_size = suc capacity

abbrev pub is_placed : List ℕ → ℕ → Bool
is_placed placed i = not (eqb (get_or placed i 0) 0)

-- It is not placed, and all that it needs is.
unfoldable pub ready_in : List ℕ → List ℕ → List ℕ → ℕ → Bool
ready_in rows counts placed i = not (is_placed placed i) && every (is_placed placed) (row_in rows counts i)

-- The greatest of its own number and those of its needs.
unfoldable pub greatest_along : List ℕ → List ℕ → List ℕ → ℕ → ℕ → ℕ
greatest_along rows counts numbers i own = max own (greatest (λ j. get_or numbers j 0) (row_in rows counts i))

-- ---- what marks and blocks stand for
-- Marked are the deltas of the sequences `done`.
pub record Marks (names placed done : List ℕ) : Type 0 where
  pub size : length placed ≡ marks_size
  pub here : (i : ℕ) → i < length names → is_placed placed i ≡ has (get_or names i 0) done
  pub absent : is_placed placed missing ≡ false

-- The deltas l were placed one after the other.
pub record Placing (S : State) (placed : List ℕ) (l : List Message) : Type 0 where
  pub listing : Listing S [] l
  pub received : (m : Message) → m ∈ l → m ∈ S.deltas
  pub marks : Marks (sequences_of S.deltas) placed (placed_by l)

-- The deltas of the sequences `done` have their effective block.
pub record Blocks (S : State) (blocks done : List ℕ) : Type 0 where
  pub size : length blocks ≡ marks_size
  pub here : (i : ℕ) → i < length S.deltas → get_or (sequences_of S.deltas) i 0 ∈ done → get_or blocks i 0 ≡ effective_block S (get_or S.deltas i [])
