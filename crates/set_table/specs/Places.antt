-- Messages by their places; and what `find` answers: the place of a sequence's message, or the place where it would stand.
use Rattle.std.specs.Prelude.{◌≡◌, List, [], ℕ, ◌≤◌, ◌<◌, length, get_or, Result, Ok, Err}
use Rattle.model.specs.Lists.{◌∈◌}
use Rattle.model.specs.Message.{sequence_of}
use Rattle.set_table.specs.Table.{deltas_of}

-- the sequence of the message at a place
abbrev pub sequence_in : List ℕ → List ℕ → ℕ → ℕ
sequence_in pool starts k = sequence_of (get_or (deltas_of pool starts) k [])

-- each is a place of a table of n
abbrev pub AllBelow : ℕ → List ℕ → Type 0
AllBelow n places = (i : ℕ) → i ∈ places → i < n

pub record IsPresent (pool starts : List ℕ) (s i : ℕ) : Type 0 where
  pub inside : i < length starts
  pub here : sequence_in pool starts i ≡ s

-- lower sequences before the place, higher ones from it on
pub record IsAbsent (pool starts : List ℕ) (s p : ℕ) : Type 0 where
  pub inside : p ≤ length starts
  pub before : (k : ℕ) → k < p → sequence_in pool starts k < s
  pub after : (k : ℕ) → p ≤ k → k < length starts → s < sequence_in pool starts k

abbrev pub Finds : List ℕ → List ℕ → ℕ → Result ℕ ℕ → Type 0
Finds pool starts s (Ok i) = IsPresent pool starts s i
Finds pool starts s (Err p) = IsAbsent pool starts s p
