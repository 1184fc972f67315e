-- The listing as the program goes through it.
use Rattle.std.specs.Prelude.{List, ℕ, ◌+◌, ◌*◌, ◌/◌, length}
use Rattle.model.specs.Program.{lines_from}
use Rattle.listing_lines.specs.Rooms.{line_room, last_room}

-- The lines of all that is left of the input, from message `n` on, and the last line.
unfoldable pub lines : ℕ → List ℕ → List ℕ → List ℕ
lines n image rest = lines_from (length rest) n image rest

-- What the lines of so many bytes take at most: a line for each 48 of them, a line for a wrong cut, and the last line.
abbrev pub room_for : ℕ → ℕ
room_for size = size * 2 / 3 + (line_room + last_room)
