-- What a composed message carries: each thing that document 01 names, by the message's own fields.
use Rattle.std.specs.Prelude.{◌≡◌, ◌↔◌, not, List, [], ℕ, suc, ◌<◌, max, drop, T}
use Rattle.model.specs.Lists.{◌∈◌, greatest, ascending}
use Rattle.model.specs.Bytes.{number, field}
use Rattle.model.specs.Layout.{priority_flag_at}
use Rattle.model.specs.Message.{Message, dependency_count, commands_start, sequence_of, group_of, block_of, priority_of, dependencies_of, line_of, number_of, predecessor_of}
use Rattle.model.specs.Order.{State, purged, sequences_of, needs, effective_block, log_of}
use Rattle.model.specs.Compose.{new_number, last_sequence}
use Rattle.laws_compose.specs.ComposeFacts.{dependencies_ascend}

-- "the log deltas that no other log delta needs"
pub record NeededByNone (S : State) (d : ℕ) : Type 0 where
  pub logged : d ∈ sequences_of (log_of S)
  pub others : (m : Message) → m ∈ log_of S → ¬ (sequence_of m ≡ d) → ¬ (d ∈ needs S m)

-- A message that was composed on a state, on this line, with these commands, flag and priority.
pub record Carries (S : State) (line commands : List ℕ) (flag priority : ℕ) (m : Message) : Type 0 where
  -- "Number is one more than the line's greatest in the log, or 0001." "Compose counts floors .. too": it is above its line's floor.
  pub on_line : line_of (sequence_of m) ≡ number line
  pub next_number : number_of (sequence_of m) ≡ new_number S (number line)
  pub above_floor : T (not (purged S (sequence_of m)))
  -- "Dependencies are the log deltas that no other log delta needs, less the predecessor", and they ascend.
  pub dependencies : (d : ℕ) → (d ∈ dependencies_of m) ↔ (NeededByNone S d × ¬ (d ∈ predecessor_of (sequence_of m)))
  pub dependencies_ascend : T (ascending (dependencies_of m))
  -- "Group is 1 on an empty log; the highest in the log plus one if the last delta's sequence is above the new one; else the highest."
  -- The purged group counts too (it is 0 before any purge).
  pub group_first : log_of S ≡ [] → group_of m ≡ suc S.origin.group
  pub group_raised : ¬ (log_of S ≡ []) → sequence_of m < last_sequence (log_of S) → group_of m ≡ suc (max S.origin.group (greatest group_of (log_of S)))
  pub group_kept : ¬ (log_of S ≡ []) → ¬ (sequence_of m < last_sequence (log_of S)) → group_of m ≡ max S.origin.group (greatest group_of (log_of S))
  -- "With priority, block is the highest effective block plus one (1 on an empty log)." The purged block counts too.
  pub block : flag ≡ 1 → block_of m ≡ suc (max S.origin.block (greatest (effective_block S) (log_of S)))
  pub no_block : flag ≡ 0 → block_of m ≡ 0
  -- "the message carries the commands, the flag and the priority as handed over"
  pub flag_carried : field m priority_flag_at 1 ≡ flag
  pub priority_carried : priority_of m ≡ priority
  pub commands_carried : drop (commands_start (dependency_count m)) m ≡ commands
