-- The lines of an image's log, and how far the program is.
use Rattle.std.specs.Prelude.{◌≡◌, List, ℕ, ◌*◌, ◌≤◌, length, drop}
use Rattle.model.specs.Layout.{capacity}
use Rattle.model.specs.Image.{log_count, log_in, message_offset}
use Rattle.model.specs.Program.{log_lines}
use Rattle.program_decimal.specs.Ahead.{Ahead}
use Rattle.print_log_line.specs.Rooms.{line_room}

-- the most bytes of all lines
abbrev pub log_room : ℕ
log_room = line_room * capacity

-- The lines from a place on, under a name that stays shut.
unfoldable pub lines_from : List ℕ → ℕ → List ℕ
lines_from b place = log_lines b place (drop place (log_in b))

-- The lines before `place` stand before `at`: with those from there on, that is all. `offset` is where the next message starts.
pub record Printing (b entry : List ℕ) (out : List ℕ) (place offset at : ℕ) : Type 0 where
  pub inside : place ≤ log_count b
  pub located : offset ≡ message_offset b place
  pub room : at ≤ line_room * place
  pub size : length out ≡ length entry
  pub ahead : Ahead (lines_from b 0) entry 0 out at (lines_from b place)
