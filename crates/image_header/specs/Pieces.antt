-- An image in pieces: a piece pasted at a place, and the bytes of the header in four parts.
use Rattle.std.specs.Prelude.{◌≡◌, List, [], ◌∷◌, ◌++◌, ℕ, ◌+◌, length, take, drop}
use Rattle.std.proofs.Math.Seq.{paste}
use Rattle.model.specs.Bytes.{fields_bytes, join}
use Rattle.model.specs.Layout.{setpoints_start, base_start, floors_start, image_fields}
use Rattle.model.specs.Order.{State}
use Rattle.model.specs.Image.{used_of}

-- A list with a piece, the whole of it, in place of what stood from a place on.
abbrev pub pasted : List ℕ → ℕ → List ℕ → List ℕ
pasted d at b = paste d at b (length b)

-- L and H.
abbrev pub counts_bytes : ℕ → ℕ → List ℕ
counts_bytes log held = fields_bytes (take 2 image_fields) (log ∷ held ∷ [])

-- The offsets of setpoints and messages, the bytes used.
abbrev pub offsets_bytes : ℕ → ℕ → List ℕ
offsets_bytes start used = fields_bytes (take 3 (drop 2 image_fields)) (setpoints_start ∷ start ∷ used ∷ [])

-- How many floors, the offsets of floors and of base values.
abbrev pub floor_fields_bytes : ℕ → List ℕ
floor_fields_bytes floors = fields_bytes (take 3 (drop 5 image_fields)) (floors ∷ floors_start ∷ base_start ∷ [])

-- The greatest purged block and group, zeros.
abbrev pub purged_bytes : ℕ → ℕ → List ℕ
purged_bytes block group = fields_bytes (drop 8 image_fields) (block ∷ group ∷ 0 ∷ [])

abbrev pub header_bytes : ℕ → ℕ → ℕ → ℕ → ℕ → ℕ → ℕ → List ℕ
header_bytes log held start used floors block group =
    join (counts_bytes log held ∷ offsets_bytes start used ∷ floor_fields_bytes floors ∷ purged_bytes block group ∷ [])

-- A piece pasted from a place on, and the place behind it.
pub record Copied (before : List ℕ) (at : ℕ) (piece after : List ℕ) (behind : ℕ) : Type 0 where
  pub bytes : after ≡ pasted before at piece
  pub end : behind ≡ at + length piece

-- The used bytes of a state's image, written at the front of a buffer; the rest stays.
pub record UsedWritten (S : State) (before after : List ℕ) (used : ℕ) : Type 0 where
  pub bytes : after ≡ used_of S ++ drop (length (used_of S)) before
  pub end : used ≡ length (used_of S)
