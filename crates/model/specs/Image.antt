-- The station image: the image of a state, and which buffers are one (code 2), declared and computed.
use Rattle.std.specs.Prelude.{◌≡◌, Bool, cond, not, ◌&&◌, List, [], ◌∷◌, ◌++◌, map, ℕ, zero, suc, ◌+◌, ◌*◌, ◌-◌, length, take, drop, replicate, leb, ℤ}
use Rattle.model.specs.Lists.{every, sum, same}
use Rattle.model.specs.Bytes.{number, bytes, field, fields_bytes, parts, join, integer, word}
use Rattle.model.specs.Layout.{length_at, sequence_size, value_size, tag_count, image_size, log_count_at, held_count_at, used_at, floor_count_at, purged_block_at, purged_group_at, setpoints_start, base_start, floors_start, image_fields, capacity}
use Rattle.model.specs.Message.{Message, sequence_of, passes}
use Rattle.model.specs.Order.{Origin, State, holding, purged, origin_right, RightSet, insert, log_of, held_of}
use Rattle.model.specs.Setpoints.{setpoints_of}

-- ---- the sections, one behind the other
-- Where the messages start: past the header, the setpoints, the base values and the floors.
unfoldable pub messages_start : State → ℕ
messages_start S = floors_start + sequence_size * length S.origin.floors

-- "Then the log's messages in order, the held ones by ascending sequence"
unfoldable pub messages_of : State → List ℕ
messages_of S = join (log_of S) ++ join (held_of S)

-- Values, four bytes each.
abbrev pub values_bytes : List ℤ → List ℕ
values_bytes values = join (map (λ v. bytes value_size (word v)) values)

-- "Then 64 values of four bytes, as the log leaves them."
unfoldable pub values_of : State → List ℕ
values_of S = values_bytes (setpoints_of S)

-- "base values at 288, floors at 544"
unfoldable pub base_of : State → List ℕ
base_of S = values_bytes S.origin.base

unfoldable pub floors_of : State → List ℕ
floors_of S = join (map (bytes sequence_size) S.origin.floors)

-- The header, by the fields of `Layout.image_fields`: log count, held count, the offsets of setpoints and of messages, the bytes used; how
-- many floors, the offsets of floors and of base values, the greatest purged effective block and group, zeros.
abbrev pub header_numbers : State → List ℕ
header_numbers S =
    length (log_of S) ∷ length (held_of S) ∷ setpoints_start ∷ messages_start S ∷ (messages_start S + length (messages_of S))
    ∷ length S.origin.floors ∷ floors_start ∷ base_start ∷ S.origin.block ∷ S.origin.group ∷ 0 ∷ []

unfoldable pub header_of : State → List ℕ
header_of S = fields_bytes image_fields (header_numbers S)

unfoldable pub sections_of : State → List (List ℕ)
sections_of S = header_of S ∷ values_of S ∷ base_of S ∷ floors_of S ∷ messages_of S ∷ []

-- The bytes used.
unfoldable pub used_of : State → List ℕ
used_of S = join (sections_of S)

-- "and zeros to the end"
unfoldable pub image_of : State → List ℕ
image_of S = used_of S ++ replicate (image_size - length (used_of S)) 0

-- ---- declared: "image of a set of at most 64 deltas that pass 3 to 6, no sequence twice", with floors and base values as `RightSet` asks
abbrev pub Valid : State → Type 0
Valid S = RightSet S

pub record IsImage (b : List ℕ) : Type 0 where
  pub state : State
  pub valid : Valid state
  pub image : b ≡ image_of state

-- ---- computed: the messages that a buffer holds, each cut by its length field
abbrev pub cut : ℕ → List ℕ → List Message
cut zero b = []
cut (suc n) b = take (field b length_at 2) b ∷ cut n (drop (field b length_at 2) b)

abbrev pub log_count : List ℕ → ℕ
log_count b = field b log_count_at 2

abbrev pub held_count : List ℕ → ℕ
held_count b = field b held_count_at 2

-- The bytes used, as the header says.
abbrev pub used_count : List ℕ → ℕ
used_count b = field b used_at 2

-- The 64 values from a place on, by their bytes; those of an image.
abbrev pub values_at : ℕ → List ℕ → List ℤ
values_at at b = map (λ p. integer (number p)) (parts tag_count value_size (drop at b))

unfoldable pub values_in : List ℕ → List ℤ
values_in b = values_at setpoints_start b

abbrev pub floor_count : List ℕ → ℕ
floor_count b = field b floor_count_at 2

-- Where the messages of a buffer start: of an image, where its state's do.
unfoldable pub messages_start_in : List ℕ → ℕ
messages_start_in b = floors_start + sequence_size * floor_count b

-- The floors of a buffer, and its base values. Where the buffer ends before its messages could start there are none, so that its origin is
-- not right: no answer hangs on it, but who reads floors of a right origin then knows that they are there.
unfoldable pub floors_in : List ℕ → List ℕ
floors_in b = map number (parts (floor_count b) sequence_size (drop floors_start b))

unfoldable pub base_in : List ℕ → List ℤ
base_in b = cond (leb (messages_start_in b) (length b)) (values_at base_start b) []

-- What the log of a buffer starts from.
unfoldable pub origin_in : List ℕ → Origin
origin_in b = record { floors = floors_in b; base = base_in b; block = field b purged_block_at 4; group = field b purged_group_at 4 }

-- The image's log, all of its messages, and the held ones, which stand behind those of the log.
abbrev pub log_in : List ℕ → List Message
log_in b = cut (log_count b) (drop (messages_start_in b) b)

abbrev pub messages_in : List ℕ → List Message
messages_in b = cut (log_count b + held_count b) (drop (messages_start_in b) b)

abbrev pub held_in : List ℕ → List Message
held_in b = drop (log_count b) (messages_in b)

-- ---- where they lie (document 02, Paper 3)
-- "the offset of the first message plus the lengths of all messages before the place"
unfoldable pub offset_of : ℕ → List Message → ℕ → ℕ
offset_of first l place = first + sum length (take place l)

-- "adds each length once and carries the offset as a running value": what a walk carries, at each message and past the last one.
abbrev pub walk : ℕ → List Message → List ℕ
walk at [] = at ∷ []
walk at (m ∷ l) = at ∷ walk (at + length m) l

-- The offset of a place of a buffer's messages.
abbrev pub message_offset : List ℕ → ℕ → ℕ
message_offset b place = offset_of (messages_start_in b) (messages_in b) place

-- ---- the state
abbrev pub set_of : List Message → List Message
set_of [] = []
set_of (m ∷ l) = insert m (set_of l)

abbrev pub state_in : List ℕ → State
state_in b = holding (origin_in b) (set_of (messages_in b))

-- A message that an image may hold: "deltas that pass 3 to 6", "no message at or below a floor"
abbrev pub holdable : State → Message → Bool
holdable S m = passes m && not (purged S (sequence_of m))

unfoldable pub is_image : List ℕ → Bool
is_image b =
    let S = state_in b in
    origin_right S.origin && leb (length S.deltas) capacity && every (holdable S) S.deltas && same (image_of S) b
