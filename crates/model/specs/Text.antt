-- Sequences as text, Paper 2 of document 02: "24 characters of 0-9 and A-F, joined by commas", as document 000 writes DepSeq.
-- A text is a list of characters. Any list is a legal argument: a number above 255 is no digit and no comma.
use Rattle.std.specs.Prelude.{Bool, cond, not, ◌&&◌, List, [], ◌∷◌, ◌++◌, map, ℕ, suc, ◌+◌, ◌*◌, ◌-◌, ◌/◌, ◌%◌, length, take, drop, eqb, ltb, leb}
use Rattle.model.specs.Lists.{every, same}
use Rattle.model.specs.Bytes.{is_bytes, number, parts, join}
use Rattle.model.specs.Layout.{sequence_size, characters_size, text_part_size, sequences_room, text_room}
use Rattle.model.specs.Message.{numbered}

-- ---- characters and digits
abbrev pub comma : ℕ
comma = 44

-- what the table has for a character that is no digit
abbrev pub no_digit : ℕ
no_digit = 255

-- "A table of 256 entries gives each character its digit or 255." 0-9 are characters 48-57, A-F are 65-70.
unfoldable pub digit_of : ℕ → ℕ
digit_of c = cond (leb 48 c && leb c 57) (c - 48) (cond (leb 65 c && leb c 70) (10 + (c - 65)) no_digit)

abbrev pub is_digit : ℕ → Bool
is_digit c = not (eqb (digit_of c) no_digit)

-- the character of a digit below 16
unfoldable pub character_of : ℕ → ℕ
character_of d = cond (ltb d 10) (48 + d) (65 + (d - 10))

-- ---- bytes and their characters, two a byte, the high digit first. A character left over is dropped; 24 leave none.
abbrev pub characters_of : List ℕ → List ℕ
characters_of [] = []
characters_of (b ∷ l) = character_of (b / 16) ∷ character_of (b % 16) ∷ characters_of l

abbrev pub bytes_in : List ℕ → List ℕ
bytes_in [] = []
bytes_in (c ∷ []) = []
bytes_in (c ∷ d ∷ t) = (16 * digit_of c + digit_of d) ∷ bytes_in t

-- ---- sequences end to end, one by one
abbrev pub sequence_parts : List ℕ → List (List ℕ)
sequence_parts b = parts (length b / sequence_size) sequence_size b

-- ---- the writer: the characters of each sequence, "joined by commas"
abbrev pub joined : List (List ℕ) → List ℕ
joined [] = []
joined (t ∷ []) = t
joined (t ∷ u ∷ l) = t ++ comma ∷ joined (u ∷ l)

unfoldable pub text_of : List ℕ → List ℕ
text_of b = joined (map characters_of (sequence_parts b))

-- ---- the reader: the parts of a text, and the bytes of its sequences
-- A part is 25 characters, those of a sequence and the comma behind them. No comma stands behind the last: one is put there.
abbrev pub text_parts : List ℕ → List (List ℕ)
text_parts t = parts (suc (length t) / text_part_size) text_part_size (t ++ comma ∷ [])

abbrev pub sequence_in : List ℕ → List ℕ
sequence_in p = bytes_in (take characters_size p)

unfoldable pub sequence_bytes_in : List ℕ → List ℕ
sequence_bytes_in t = join (map sequence_in (text_parts t))

-- ---- what 13 asks of a text: characters, commas and length; 24, 49 and so on to 199
abbrev pub text_part_right : List ℕ → Bool
text_part_right p = every is_digit (take characters_size p) && same (drop characters_size p) (comma ∷ [])

unfoldable pub text_right : List ℕ → Bool
text_right t = leb (length t) text_room && eqb (suc (length t) % text_part_size) 0 && every text_part_right (text_parts t)

-- of a writer's input: "12 to 96 bytes by twelves" (and that it is a list of bytes, as all that a caller can hand over is)
unfoldable pub sequences_right : List ℕ → Bool
sequences_right b =
    is_bytes b && leb sequence_size (length b) && leb (length b) sequences_room && eqb (length b % sequence_size) 0

-- ---- what 14 asks of sequences end to end: none has the number 0000, its last two bytes
unfoldable pub all_numbered : List ℕ → Bool
all_numbered b = every (λ s. numbered (number s)) (sequence_parts b)
