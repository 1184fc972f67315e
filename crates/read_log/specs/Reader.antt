-- The reader of the code as the definition has it, and what its two calls promise.
use Rattle.std.specs.Prelude.{◌≡◌, List, ℕ}
use Rattle.model.specs.Calls as model
use Rattle.read_log.specs.declared.reader.LogReader.{LogReader}

abbrev pub reader_of : LogReader → model.Reader
reader_of r = record { image = r.image.now; offset = r.offset }

-- where a reader of a buffer starts, by the definition
abbrev pub first_offset : List ℕ → ℕ
first_offset b = (model.start b).offset

abbrev pub Starts : List ℕ → LogReader → Type 0
Starts b r = reader_of r ≡ model.start b

-- the part, and the reader moved on
abbrev pub read_of : List ℕ → model.Reader → model.Read
read_of part r = record { part = part; reader = r }

abbrev pub Reads : LogReader → List ℕ → LogReader → Type 0
Reads entry part exit = read_of part (reader_of exit) ≡ model.next (reader_of entry)
