-- Tops as bytes.
use Rattle.std.specs.Prelude.{List, map, ℕ, ◌+◌, ◌*◌}
use Rattle.model.specs.Bytes.{number, parts}
use Rattle.model.specs.Layout.{sequence_size, most_floors, capacity}

-- the most that a purge can come to: an image's floors, and one more for each delta of its log
abbrev pub most_tops : ℕ
most_tops = most_floors + capacity

abbrev pub tops_room : ℕ
tops_room = sequence_size * most_tops

-- the first n sequences of a buffer
unfoldable pub tops_in : List ℕ → ℕ → List ℕ
tops_in b n = map number (parts n sequence_size b)
