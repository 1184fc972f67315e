-- Keys at places of a log, and which of them are above others.
use Rattle.std.specs.Prelude.{◌≡◌, Bool, true, false, not, List, ℕ, ◌*◌, ◌≤◌, ◌<◌, length, get_or, T}
use Rattle.model.specs.Layout.{capacity}
use Rattle.model.specs.Order.{less}
use Rattle.log_key.specs.Key.{key_size, key_in}

-- The key of the delta at a place.
abbrev pub key_at : List ℕ → List ℕ → ℕ → List ℕ
key_at keys places q = key_in keys (get_or places q 0)

-- The places are those of keys; and at each place below k the key is above all from `froms` on.
pub record Comparable (keys places froms : List ℕ) (k : ℕ) : Type 0 where
  pub keyed : length keys ≡ key_size * capacity
  pub inside : k < length places
  pub small : (q : ℕ) → q < length places → get_or places q 0 < capacity
  pub room : k < length froms
  pub below : (q : ℕ) → q < k → get_or froms q 0 ≤ q
  pub sorted : (q : ℕ) → q < k → (j : ℕ) → get_or froms q 0 ≤ j → j < q → T (less (key_at keys places j) (key_at keys places q))

abbrev pub Above : List ℕ → List ℕ → ℕ → ℕ → Bool → Type 0
Above keys places from k true = (q : ℕ) → from ≤ q → q < k → T (less (key_at keys places q) (key_at keys places k))
Above keys places from k false = (q : ℕ) × (from ≤ q) × (q < k) × T (not (less (key_at keys places q) (key_at keys places k)))
