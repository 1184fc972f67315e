-- A log as places of a table: the sequences that they name.
use Rattle.std.specs.Prelude.{List, map, ℕ}
use Rattle.set_table.specs.Places.{sequence_in}

abbrev pub names_of : List ℕ → List ℕ → List ℕ → List ℕ
names_of pool starts places = map (sequence_in pool starts) places
