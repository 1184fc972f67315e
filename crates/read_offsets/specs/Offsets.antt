-- The offset that a reader at an offset keeps after the next message, by the definition.
use Rattle.std.specs.Prelude.{List, ℕ}
use Rattle.model.specs.Calls as model

abbrev pub offset_after : List ℕ → ℕ → ℕ
offset_after b offset = (model.next (record { image = b; offset = offset })).reader.offset
