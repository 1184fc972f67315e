-- The log of a set as places of a table: its names, and what two such logs have in common.
use Rattle.std.specs.Prelude.{◌≡◌, ℕ, ◌-◌, ◌≤◌, ◌<◌, length, get_or}
use Rattle.std.proofs.Common.{sym, ◌∙◌, ap, ap₂, subst, arith}
use mathlib.Core.List.{List, [], map, map_congr_left}
use Rattle.model.specs.Message.{Message, sequence_of}
use Rattle.model.specs.Order.{State, sequences_of, log_of}
use Rattle.model.specs.Steps.{common, undos_of, executions_of}
use Rattle.laws_order.specs.ListLaws.{map_map}
use Rattle.laws_order.specs.CommonLaws.{common_named}
use Rattle.set_table.specs.Table.{deltas_of, deltas_at, Holds, insert_at}
use Rattle.set_table.specs.TableLaws.{deltas_length}
use Rattle.set_table.specs.Places.{sequence_in, AllBelow}
use Rattle.set_table.specs.PlaceLaws.{one_place}
use Rattle.set_table.specs.InsertLaws.{length_insert}
use Rattle.set_table.specs.Shifting.{shifted}
use Rattle.set_table.specs.ShiftingLaws.{delta_shifted, below_shifted}
use Rattle.deliver_steps.specs.LogNames.{names_of}
use Rattle.deliver_steps.specs.LogNameLaws.{length_names}

pub record IsLogOf (pool starts places : List ℕ) (S : State) : Type 0 where
  pub log : deltas_at (deltas_of pool starts) places ≡ log_of S
  pub within : AllBelow (length starts) places

-- the same log after a message has joined the table, in a pool with the same messages
pub log_shifted : (b pool starts : List ℕ) (p at : ℕ) (old : List ℕ) (S : State) → deltas_of pool starts ≡ deltas_of b starts → p ≤ length starts
    → IsLogOf b starts old S → IsLogOf pool (insert_at p at starts) (map (shifted p) old) S
log_shifted b pool starts p at old S e h before = record {
  log = map_map (λ i. get_or (deltas_of pool (insert_at p at starts)) i []) (shifted p) old
      ∙ map_congr_left {l = old} (λ i k. delta_shifted pool starts p at i h ∙ ap (λ (l : List Message). get_or l i []) e)
      ∙ before.log;
  within = subst (λ (n : ℕ). AllBelow n (map (shifted p) old)) (sym (length_insert p at starts h)) (below_shifted p (length starts) old before.within);
}

pub names_are : (pool starts places : List ℕ) (S : State) → IsLogOf pool starts places S → names_of pool starts places ≡ sequences_of (log_of S)
names_are pool starts places S h = sym (map_map sequence_of (λ i. get_or (deltas_of pool starts) i []) places) ∙ ap sequences_of h.log

-- two places of one sequence are one
places_differ : (pool starts : List ℕ) → Holds pool starts → (i j : ℕ) → i < length starts → j < length starts → sequence_in pool starts i ≡ sequence_in pool starts j → i ≡ j
places_differ pool starts holds i j p q e =
    let size : length (deltas_of pool starts) ≡ length starts = deltas_length pool starts in
    one_place (deltas_of pool starts) holds.ascends i j (omega arith) (omega arith) e

-- the longest common start of two lists of names is that of their places
pub common_names : (pool starts old new : List ℕ) → Holds pool starts → AllBelow (length starts) old → AllBelow (length starts) new
    → common (names_of pool starts old) (names_of pool starts new) ≡ common old new
common_names pool starts old new holds before after =
    common_named (sequence_in pool starts) old new (λ a b p q e. places_differ pool starts holds a b (before a p) (after b q) e)

-- ---- two logs of one table
module _ (pool starts old new : List ℕ) (S R : State) (holds : Holds pool starts) (before : IsLogOf pool starts old S) (after : IsLogOf pool starts new R) where
  common_logs : common (sequences_of (log_of S)) (sequences_of (log_of R)) ≡ common old new
  common_logs = ap₂ common (sym (names_are pool starts old S before)) (sym (names_are pool starts new R after)) ∙ common_names pool starts old new holds before.within after.within

  pub undos_are : undos_of (sequences_of (log_of S)) (sequences_of (log_of R)) ≡ undos_of old new
  undos_are = ap₂ ◌-◌ (ap length (sym (names_are pool starts old S before)) ∙ length_names pool starts old) common_logs

  pub executions_are : executions_of (sequences_of (log_of S)) (sequences_of (log_of R)) ≡ executions_of old new
  executions_are = ap₂ ◌-◌ (ap length (sym (names_are pool starts new R after)) ∙ length_names pool starts new) common_logs
