-- What the marks stand for, and what is found.
use Rattle.std.specs.Prelude.{◌≡◌, Bool, not, ◌&&◌, List, ◌++◌, map, ℕ, ◌≤◌, ◌<◌, length, get_or, take, drop}
use Rattle.model.specs.Lists.{has, some?, keep}
use Rattle.model.specs.Layout.{capacity}
use Rattle.model.specs.Message.{predecessor_of}
use Rattle.model.specs.Order.{State, sequences_of, needs, log_of}
use Rattle.model.specs.Compose.{unneeded, new_dependencies}
use Rattle.set_table.specs.Table.{deltas_of, set_in}
use Rattle.set_table.specs.Places.{sequence_in, AllBelow}
use Rattle.set_readiness.specs.Ready.{is_placed}
use Rattle.compose_dependencies.specs.declared.Uses.{Uses}
use Rattle.compose_dependencies.specs.declared.Dependencies.{Dependencies}

-- A new delta of the sequence s depends on that of the sequence d.
unfoldable pub chosen : State → ℕ → ℕ → Bool
chosen S s d = unneeded S d && not (has d (predecessor_of s))

-- The marks tell of each delta whether it is in the log, and whether a delta of the log needs it.
pub record UsesRight (S : State) (u : Uses) : Type 0 where
  pub logged : (i : ℕ) → i < length S.deltas → is_placed u.logged i ≡ has (get_or (sequences_of S.deltas) i 0) (sequences_of (log_of S))
  pub needed : (i : ℕ) → i < length S.deltas → is_placed u.needed i ≡ some? (λ m. has (get_or (sequences_of S.deltas) i 0) (needs S m)) (log_of S)

abbrev pub places_found : Dependencies → List ℕ
places_found r = take r.count r.places

pub record IsDependencies (pool starts : List ℕ) (s : ℕ) (r : Dependencies) : Type 0 where
  pub names : map (sequence_in pool starts) (places_found r) ≡ new_dependencies (set_in pool starts) s
  pub inside : AllBelow (length starts) (places_found r)
  pub fits : r.count ≤ capacity

-- What holds where the loop of `find_dependencies` tests: those below i were looked at, and n of them found.
pub record Finding (pool starts : List ℕ) (s : ℕ) (found : List ℕ) (n i : ℕ) : Type 0 where
  pub size : length found ≡ capacity
  pub few : n ≤ i
  pub upto : i ≤ length starts
  pub names : map (sequence_in pool starts) (take n found) ++ keep (chosen (set_in pool starts) s) (drop i (sequences_of (deltas_of pool starts))) ≡ new_dependencies (set_in pool starts) s
  pub inside : AllBelow (length starts) (take n found)
