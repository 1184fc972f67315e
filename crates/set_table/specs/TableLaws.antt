-- A table has as many messages as starts; one that passes 3 to 6 lies inside the pool, and its fields are read there.
use Rattle.std.specs.Prelude.{◌≡◌, List, ℕ, ◌+◌, ◌-◌, ◌≤◌, min, length, drop, T}
use Rattle.std.proofs.Common.{arith, length-take, length-drop}
use Rattle.std.proofs.lemmas.List.{length-map}
use Rattle.model.specs.Bytes.{field}
use Rattle.model.specs.Layout.{length_at, header_size, message_room, capacity}
use Rattle.model.specs.Message.{Message, passes}
use Rattle.laws_wire.specs.BytesLaws.{field_part}
use Rattle.laws_wire.specs.MessageLaws.{Sized, passes_sized, sized_range, sized_cut}
use Rattle.set_table.specs.Table.{message_from, deltas_of, Holds}

pub deltas_length : (pool starts : List ℕ) → length (deltas_of pool starts) ≡ length starts
deltas_length pool starts = length-map starts (message_from pool)

pub table_count : (pool starts : List ℕ) → Holds pool starts → length starts ≤ capacity
table_count pool starts holds = omega (arith, deltas_length pool starts, holds.fits)

pub record Lies (pool : List ℕ) (at : ℕ) : Type 0 where
  pub least : header_size ≤ field pool (at + length_at) 2
  pub most : field pool (at + length_at) 2 ≤ message_room
  pub inside : at + field pool (at + length_at) 2 ≤ length pool
  pub size : length (message_from pool at) ≡ field pool (at + length_at) 2
  -- a field of the message is the pool's, so much further on
  pub fields : (i size : ℕ) → i + size ≤ field pool (at + length_at) 2 → field (message_from pool at) i size ≡ field pool (at + i) size

pub passes_lies : (pool : List ℕ) (at : ℕ) → T (passes (message_from pool at)) → Lies pool at
passes_lies pool at t =
    let total : ℕ = field pool (at + length_at) 2 in
    let m : Message = message_from pool at in
    let s : Sized m = passes_sized m t in
    let least : header_size ≤ length m = omega (arith, (sized_range m s).0) in
    let most : length m ≤ message_room = (sized_range m s).1 in
    let cut : length m ≡ min total (length (drop at pool)) = length-take total (drop at pool) in
    let left : length (drop at pool) ≡ length pool - at = length-drop at pool in
    let size : length m ≡ total = sized_cut pool at s in
    record {
      least = omega arith;
      most = omega arith;
      inside = omega arith;
      size = size;
      fields = λ i n h. field_part pool at total i n h;
    }
