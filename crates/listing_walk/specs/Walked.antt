-- How far the program is.
use Rattle.std.specs.Prelude.{◌≡◌, List, ℕ, ◌+◌, ◌-◌, ◌≤◌, length, drop}
use Rattle.model.specs.Layout.{image_size}
use Rattle.program_decimal.specs.Ahead.{Ahead}
use Rattle.listing_walk.specs.Lines.{lines, room_for}

-- The messages before `from` are delivered and their lines stand before `at`: with the lines of the rest, that is all.
pub record Walked (input begun entry : List ℕ) (image out : List ℕ) (number from at : ℕ) : Type 0 where
  pub inside : from ≤ length input
  pub counted : number ≤ from + 1
  pub room : at + room_for (length input - from) ≤ length out
  pub image_size_lem : length image ≡ image_size
  pub out_size : length out ≡ length entry
  pub ahead : Ahead (lines 1 begun input) entry 0 out at (lines number image (drop from input))
