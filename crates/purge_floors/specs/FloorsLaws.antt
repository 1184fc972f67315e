-- An image's floors as tops; and the sequences of deltas raised one at a time.
use Rattle.std.specs.Prelude.{◌≡◌, take, get_or, T}
use Rattle.std.proofs.Common.{sym, ◌∙◌, arith}
use Rattle.std.proofs.Math.Path.{ap}
use mathlib.Core.List.{List}
use Prim.Native.Nat.{ℕ, suc, ◌+◌, ◌*◌, ◌-◌, ◌≤◌, ◌<◌}
use Rattle.std.proofs.Math.ListN.{length, drop, length-drop}
use Rattle.std.proofs.Math.Seq.{paste, take-take, length-take-le}
use Rattle.model.specs.Layout.{sequence_size, floors_start, most_floors}
use Rattle.model.specs.Tops.{raise_top, raise_tops}
use Rattle.model.specs.Order.{origin_right, sequences_of}
use Rattle.model.specs.Image.{floor_count, floors_in, origin_in, messages_start_in}
use Rattle.laws_origin.specs.OriginLaws.{few_floors, floors_in_lem, room_of}
use Rattle.laws_origin.specs.RaiseRight.{raise_length}
use Rattle.buffer_writes.specs.PasteLaws.{part_pasted}
use Rattle.set_table.specs.Table.{deltas_of, deltas_at}
use Rattle.set_table.specs.Places.{sequence_in}
use Rattle.image_sections.specs.LogPlaceLaws.{next_message, no_message}
use Rattle.set_tops.specs.TopsIn.{tops_in}
use Rattle.set_tops.specs.TopsLaws.{tops_length, tops_agree}

-- ---- the floors of an image: they are few, lie in it, and copied to the front of a buffer are its tops
module _ (pool : List ℕ) (right : T (origin_right (origin_in pool))) where
  pub floors_few : floor_count pool ≤ most_floors
  floors_few = omega (arith, few_floors (origin_in pool) right, floors_in_lem pool)

  pub floors_room : floors_start + sequence_size * floor_count pool ≤ length pool
  unfolding messages_start_in
  floors_room = room_of pool right

  pub tops_copied : (b : List ℕ) (n : ℕ) → n ≡ floor_count pool
      → tops_in (paste b 0 (take (length pool - floors_start) (drop floors_start pool)) (sequence_size * n)) n ≡ (origin_in pool).floors
  unfolding tops_in origin_in floors_in
  tops_copied b n e =
      let past : List ℕ = drop floors_start pool in
      let left : ℕ = length pool - floors_start in
      let size : sequence_size * n ≤ left = omega (arith, floors_room) in
      tops_agree (paste b 0 (take left past) (sequence_size * n)) past n
      (part_pasted b 0 (take left past) (sequence_size * n) (omega arith) (omega (arith, length-take-le left past (omega (arith, length-drop floors_start pool))))
      ∙ take-take (sequence_size * n) left past size)
      ∙ ap (tops_in past) e

-- ---- the sequence at a place is raised, and those behind it are left
module _ (pool starts places : List ℕ) where
  -- the sequences of the deltas from a place on
  abbrev pub gone_from : ℕ → List ℕ
  gone_from k = sequences_of (deltas_at (deltas_of pool starts) (drop k places))

  pub raised_next : (k : ℕ) (tops : List ℕ) {after : List ℕ} → k < length places → after ≡ raise_top (sequence_in pool starts (get_or places k 0)) tops
      → raise_tops (gone_from (k + 1)) after ≡ raise_tops (gone_from k) tops
  raised_next k tops h e =
      ap (raise_tops (gone_from (k + 1))) e ∙ ap (λ (l : List _). raise_tops (sequences_of l) tops) (sym (next_message (deltas_of pool starts) places k h))

  pub raised_last : (k : ℕ) (tops : List ℕ) → length places ≤ k → tops ≡ raise_tops (gone_from k) tops
  raised_last k tops h = ap (λ (l : List _). raise_tops (sequences_of l) tops) (sym (no_message (deltas_of pool starts) places k h))

-- each makes at most one top more
pub raised_count : (b : List ℕ) (r s : ℕ) (tops : List ℕ) → tops_in b r ≡ raise_top s tops → r ≤ suc (length tops)
raised_count b r s tops e = omega (arith, tops_length b r, ap length e, (raise_length s tops).1)
