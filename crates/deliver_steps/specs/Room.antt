-- Records written into a buffer, and what has to hold for it.
use Rattle.std.specs.Prelude.{◌≡◌, List, ℕ, ◌+◌, ◌*◌, ◌-◌, ◌≤◌, length}
use Rattle.std.proofs.Math.Seq.{paste}
use Rattle.model.specs.Layout.{step_size}
use Rattle.model.specs.Steps.{StepRecord, common, records_bytes}
use Rattle.image_sections.specs.LogPlaces.{TablePlaces}

-- A buffer with records written from a place on.
abbrev pub records_at : List ℕ → ℕ → List StepRecord → List ℕ
records_at buffer at l = paste buffer at (records_bytes l) (step_size * length l)

-- The log behind its first `kept` places is written from `at` on into a buffer of `size` bytes.
pub record RestFits (pool starts log : List ℕ) (kept at size : ℕ) : Type 0 where
  pub inside : TablePlaces pool starts log
  pub start : kept ≤ length log
  pub room : at + step_size * (length log - kept) ≤ size

-- The steps between two logs that have `kept` places in common are written to the front of a buffer of `size` bytes.
pub record StepsFit (pool starts old new : List ℕ) (kept size : ℕ) : Type 0 where
  pub old_inside : TablePlaces pool starts old
  pub new_inside : TablePlaces pool starts new
  pub start : kept ≡ common old new
  pub room : step_size * (length old - kept + (length new - kept)) ≤ size
