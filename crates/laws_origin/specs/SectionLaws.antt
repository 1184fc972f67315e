-- The base values and the floors of a buffer, written, are its own bytes.
use Rattle.std.specs.Prelude.{◌≡◌, List, map, ℕ, ◌+◌, ◌*◌, ◌^◌, ◌≤◌, length, take, drop, T}
use Rattle.std.proofs.Common.{sym, ◌∙◌, ap, arith}
use Rattle.std.proofs.Math.ListN.{length-drop}
use Rattle.model.specs.Bytes.{is_bytes, number, bytes, parts, join, integer, word}
use Rattle.model.specs.Layout.{sequence_size, value_size, tag_count, values_size, base_start, floors_start}
use Rattle.model.specs.Image.{values_bytes, floor_count, messages_start_in, floors_in, base_in}
use Rattle.laws_order.specs.ListLaws.{map_map}
use Rattle.laws_wire.specs.BytesLaws.{number_range, bytes_number, is_bytes_drop, parts_written, word_integer}
use Rattle.laws_origin.specs.OriginLaws.{base_is}

-- bytes of a known number
sized_bytes : (size : ℕ) (p : List ℕ) → length p ≡ size → T (is_bytes p) → bytes size (number p) ≡ p
sized_bytes size p e t = ap (λ (n : ℕ). bytes n (number p)) (sym e) ∙ bytes_number p t

value_bytes : (p : List ℕ) → length p ≡ value_size → T (is_bytes p) → bytes value_size (word (integer (number p))) ≡ p
value_bytes p e t =
    ap (bytes value_size) (word_integer (number p) (omega (arith, number_range p t, ap (λ (n : ℕ). 256 ^ n) e))) ∙ sized_bytes value_size p e t

-- the first n sequences of a buffer, written
pub sequences_bytes : (b : List ℕ) (n : ℕ) → T (is_bytes b) → sequence_size * n ≤ length b
    → join (map (bytes sequence_size) (map number (parts n sequence_size b))) ≡ take (sequence_size * n) b
sequences_bytes b n are room =
    ap join (map_map (bytes sequence_size) number (parts n sequence_size b))
    ∙ parts_written (λ p. bytes sequence_size (number p)) n sequence_size b (sized_bytes sequence_size) are (omega arith)
    ∙ ap (λ (k : ℕ). take k b) {x = n * sequence_size} {y = sequence_size * n} (omega arith)

module _ (b : List ℕ) (are : T (is_bytes b)) (room : messages_start_in b ≤ length b) where
  floors_room : floors_start + sequence_size * floor_count b ≤ length b
  unfolding messages_start_in
  floors_room = room

  pub base_bytes : values_bytes (base_in b) ≡ take values_size (drop base_start b)
  base_bytes =
      ap values_bytes (base_is b room)
      ∙ ap join (map_map (λ v. bytes value_size (word v)) (λ p. integer (number p)) (parts tag_count value_size (drop base_start b)))
      ∙ parts_written (λ p. bytes value_size (word (integer (number p)))) tag_count value_size (drop base_start b) value_bytes (is_bytes_drop base_start b are)
      (omega (arith, floors_room, length-drop base_start b))

  pub floors_bytes : join (map (bytes sequence_size) (floors_in b)) ≡ take (sequence_size * floor_count b) (drop floors_start b)
  unfolding floors_in
  floors_bytes = sequences_bytes (drop floors_start b) (floor_count b) (is_bytes_drop floors_start b are) (omega (arith, floors_room, length-drop floors_start b))
