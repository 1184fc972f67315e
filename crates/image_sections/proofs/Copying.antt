-- A message is copied, and those behind it are left.
use Rattle.std.specs.Prelude.{◌≡◌, List, [], ◌++◌, ℕ, ◌+◌, ◌≤◌, ◌<◌, length, get_or, drop}
use Rattle.std.proofs.Common.{sym, ◌∙◌, ap, ap₂, length-append}
use Rattle.model.specs.Bytes.{join}
use Rattle.model.specs.Message.{Message}
use Rattle.model.specs.Image.{offset_of}
use Rattle.laws_order.specs.ListLaws.{get_d_map}
use Rattle.laws_state.specs.OffsetLaws.{offset_next}
use Rattle.set_table.specs.Table.{deltas_at}
use Rattle.image_header.specs.Pieces.{pasted}
use Rattle.image_header.specs.PieceLaws.{pasted_pasted}
use Rattle.image_sections.specs.LogPlaceLaws.{next_message}

module _ (all : List Message) (places : List ℕ) (k : ℕ) (more : k < length places) (m : Message) (is : m ≡ get_or all (get_or places k 0) []) where
  abbrev left : List ℕ
  left = join (deltas_at all (drop k places))

  abbrev rest : List ℕ
  rest = join (deltas_at all (drop (k + 1) places))

  left_is : join (deltas_at all (drop k places)) ≡ m ++ join (deltas_at all (drop (k + 1) places))
  left_is = ap join (next_message all places k more) ∙ ap (λ (x : Message). x ++ rest) (sym is)

  pub left_size : length (join (deltas_at all (drop k places))) ≡ length m + length (join (deltas_at all (drop (k + 1) places)))
  left_size = ap length left_is ∙ length-append m rest

  pub left_bytes : (out : List ℕ) (to : ℕ) → to + length m ≤ length out
      → pasted (pasted out to m) (to + length m) (join (deltas_at all (drop (k + 1) places))) ≡ pasted out to (join (deltas_at all (drop k places)))
  left_bytes out to room = pasted_pasted out to m rest room ∙ ap (pasted out to) (sym left_is)

-- past it is the offset of the next place
pub next_offset : (at : ℕ) (all : List Message) (places : List ℕ) (k : ℕ) → k < length places → (m : Message) → m ≡ get_or all (get_or places k 0) [] → (to : ℕ)
    → to ≡ offset_of at (deltas_at all places) k → to + length m ≡ offset_of at (deltas_at all places) (k + 1)
next_offset at all places k more m is to here =
    let there : m ≡ get_or (deltas_at all places) k [] = is ∙ sym (get_d_map (λ (i : ℕ). get_or all i []) places k 0 [] more) in
    ap₂ (λ (n : ℕ) (x : Message). n + length x) here there ∙ sym (offset_next at (deltas_at all places) k)
