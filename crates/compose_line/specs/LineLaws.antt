-- A line's number; and deltas at places, one after the other.
use Rattle.std.specs.Prelude.{◌≡◌, false, ◌||◌, List, [], ℕ, ◌+◌, ◌*◌, ◌≤◌, ◌<◌, length, get_or, drop, eqb}
use Rattle.std.proofs.Common.{ap, arith, take_all}
use Rattle.model.specs.Bytes.{number, field}
use Rattle.model.specs.Layout.{line_size, numbers_of_line}
use Rattle.model.specs.Message.{Message, sequence_of, line_of}
use Rattle.model.specs.Codes.{held_on}
use Rattle.buffer_reads.specs.FieldLaws.{field_split}
use Rattle.set_table.specs.Table.{deltas_of, deltas_at, set_in}
use Rattle.image_sections.specs.LogPlaces.{others_below, LogPlaces}
use Rattle.image_sections.specs.LogPlaceLaws.{next_message, no_message}
use Rattle.image_sections.specs.HeldLaws.{others_held}
use Rattle.compose_line.specs.Line.{some_on}

-- ---- the number of a line's ten bytes, from its first eight and its last two
pub line_number : (line : List ℕ) → length line ≡ line_size → field line 0 8 * 4294967296 + field line 8 2 * numbers_of_line ≡ number line * numbers_of_line
line_number line e =
    let whole : field line 0 10 ≡ number line = ap number (take_all 10 line (omega arith)) in
    let split : field line 0 10 ≡ field line 0 8 * 65536 + field line 8 2 = field_split line 0 8 2 (omega arith) in
    omega arith

-- ---- deltas at places
module _ (l : List Message) (places : List ℕ) (k : ℕ) where
  abbrev here : Message
  here = get_or l (get_or places k 0) []

  abbrev rest : List Message
  rest = deltas_at l (drop (k + 1) places)

  pub some_next : (line : ℕ) → k < length places → some_on line (deltas_at l (drop k places)) ≡ eqb (line_of (sequence_of here)) line || some_on line rest
  some_next line h = ap (some_on line) (next_message l places k h)

  pub some_none : (line : ℕ) → length places ≤ k → some_on line (deltas_at l (drop k places)) ≡ false
  some_none line h = ap (some_on line) (no_message l places k h)

-- ---- the held ones
pub held_on_lem : (pool starts places : List ℕ) → LogPlaces pool starts places → (line : ℕ)
    → some_on line (deltas_at (deltas_of pool starts) (others_below (length starts) places)) ≡ held_on (set_in pool starts) line
held_on_lem pool starts places l line = ap (some_on line) (others_held pool starts places l)
