-- The most bytes of a message's line, and of the last line.
use Rattle.std.specs.Prelude.{ℕ}

abbrev pub line_room : ℕ
line_room = 32

abbrev pub last_room : ℕ
last_room = 25
