-- The highest so far and those that are left make up the highest.
use Rattle.std.proofs.Common.{ℕ, ◌≡◌, ◌≤◌, [], max, get_or, drop}
use Rattle.model.specs.Lists.{greatest}
use Rattle.model.specs.Layout.{field_limit}
use Rattle.model.specs.Message.{group_of}
use Rattle.set_table.specs.Table.{deltas_of}
use Rattle.log_highest.proofs.group.highest_group.Given as goal

abbrev pub invariant-loop-place : goal.invariant-loop-place
invariant-loop-place l =
    let group = λ (i : ℕ). group_of (get_or (deltas_of l.pool l.starts) i []) in
    record {
      highest : greatest group l.places ≡ max l.highest (greatest group (drop l.place-index l.places));
      small : l.highest ≤ field_limit;
    }
