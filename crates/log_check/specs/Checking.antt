-- A log that is there already, as places of a table: whether it is the log of the set, and what holds while that is checked.
use Rattle.std.specs.Prelude.{◌≡◌, List, [], ℕ, ◌+◌, ◌≤◌, ◌<◌, length, get_or, take, T, Result, Ok, Err}
use Rattle.model.specs.Lists.{◌∈◌}
use Rattle.model.specs.Layout.{capacity}
use Rattle.model.specs.Order.{State, placed_by, ready, less, log_of}
use Rattle.refusals.specs.declared.Refusal.{Refusal}
use Rattle.refusals.specs.declared.Refusal.TheVariants.{NoImage}
use Rattle.set_table.specs.Table.{deltas_at}
use Rattle.set_readiness.specs.Ready.{marks_size, Placing}
use Rattle.log_check.specs.Above.{key_at}

-- Places of the table, at most as many as it has room for.
pub record Inside (S : State) (places : List ℕ) : Type 0 where
  pub few : length places ≤ capacity
  pub small : (i : ℕ) → i ∈ places → i < length S.deltas

abbrev pub ChecksLog : State → List ℕ → Result (Unit {0}) Refusal → Type 0
ChecksLog S places (Ok done) = deltas_at S.deltas places ≡ log_of S
ChecksLog S places (Err why) = (why ≡ NoImage) × (deltas_at S.deltas places ≡ log_of S → ⊥)

-- What holds where the loop of `check_log` tests: the deltas at the first k places were placed one after the other, `ends` has one
-- more than the place of each, and from `froms` on all keys before it are below its own.
pub record Checking (S : State) (keys places placed ends froms : List ℕ) (k : ℕ) : Type 0 where
  pub inside : k ≤ length places
  pub placing : Placing S placed (deltas_at S.deltas (take k places))
  pub ends_size : length ends ≡ marks_size
  pub ended : (j : ℕ) → j < k → get_or ends (get_or places j 0) 0 ≡ j + 1
  pub froms_size : length froms ≡ capacity
  pub below : (q : ℕ) → q < k → get_or froms q 0 ≤ q
  pub sorted : (q : ℕ) → q < k → (j : ℕ) → get_or froms q 0 ≤ j → j < q → T (less (key_at keys places j) (key_at keys places q))
  -- a delta that was ready at a place was ready from there on
  pub from : (q : ℕ) → q < k → (j : ℕ) → j < q → T (ready S (placed_by (deltas_at S.deltas (take j places))) (get_or S.deltas (get_or places q 0) [])) → get_or froms q 0 ≤ j
