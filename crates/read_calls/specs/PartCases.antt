-- The cases of log message.
use Rattle.std.specs.Prelude.{◌≡◌, List, ℕ, ◌+◌, ◌≤◌, length, take, drop}
use Rattle.model.specs.Layout.{image_size}
use Rattle.model.specs.Calls.{log_message}
use Rattle.read_calls.specs.Parts.{Part}

-- ---- the part is the message
pub record IsPart (b : List ℕ) (place : ℕ) (p : Part) : Type 0 where
  pub inside : p.offset + p.size ≤ length b
  pub small : p.offset + p.size ≤ image_size
  pub bytes : take p.size (drop p.offset b) ≡ log_message b place
