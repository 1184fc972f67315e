-- What the undos and the executions of two logs need, from what their steps need together.
use Rattle.std.specs.Prelude.{List, ℕ, ◌*◌, ◌-◌, ◌≤◌, length, take}
use Rattle.std.proofs.Common.{arith}
use Rattle.model.specs.Layout.{step_size}
use Rattle.laws_order.specs.StepLaws.{common_le}
use Rattle.laws_order.specs.ListLaws.{∈_take}
use Rattle.image_sections.specs.LogPlaces.{TablePlaces}
use Rattle.deliver_steps.specs.Room.{RestFits, StepsFit}

module _ {pool starts old new : List ℕ} {kept size : ℕ} (f : StepsFit pool starts old new kept size) where
  pub kept_old : kept ≤ length old
  kept_old = omega (arith, f.start, (common_le old new).0)

  kept_new : kept ≤ length new
  kept_new = omega (arith, f.start, (common_le old new).1)

  -- what is kept is of the table too
  pub kept_inside : TablePlaces pool starts (take kept old)
  kept_inside = record { holds = f.old_inside.holds; inside = λ i k. f.old_inside.inside i (∈_take kept old k) }

  pub undos_fit : RestFits pool starts old kept 0 size
  undos_fit = record { inside = f.old_inside; start = kept_old; room = omega (arith, f.room) }

  pub executions_fit : RestFits pool starts new kept (step_size * (length old - kept)) size
  executions_fit = record { inside = f.new_inside; start = kept_new; room = omega (arith, f.room) }
