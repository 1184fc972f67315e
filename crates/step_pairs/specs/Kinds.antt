-- What an undo lists otherwise than an execution: the last one first, and the value before.
use Rattle.std.specs.Prelude.{List, reverse, ℕ, ◌-◌, ℤ}
use Rattle.model.specs.Setpoints.{Change}
use Rattle.model.specs.Steps.{Pair, values_after, values_restored}
use Rattle.step_pairs.specs.declared.kinds.Kind.{Kind}
use Rattle.step_pairs.specs.declared.kinds.Kind.TheVariants.{Undo, Execute}

-- Things in their order, and of so many the place of the one at k.
abbrev pub listed_by : {A : Type 0} → Kind → List A → List A
listed_by Undo l = reverse l
listed_by Execute l = l

abbrev pub place_by : Kind → ℕ → ℕ → ℕ
place_by Undo count k = count - 1 - k
place_by Execute count k = k

-- Of the values before and after a command.
abbrev pub value_by : Kind → ℤ → ℤ → ℤ
value_by Undo before after = before
value_by Execute before after = after

-- The pairs of a step of this kind, from its delta's changes.
abbrev pub pairs_by : Kind → List Change → List Pair
pairs_by Undo changes = values_restored changes
pairs_by Execute changes = values_after changes
