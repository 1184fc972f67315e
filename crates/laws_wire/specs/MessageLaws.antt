-- What a message that passes 3 to 6 is known to be.
use Rattle.std.specs.Prelude.{◌≡◌, ◌&&◌, List, ℕ, ◌+◌, ◌*◌, ◌^◌, ◌≤◌, ◌<◌, length, take, drop, T, eqb, leb}
use Rattle.std.proofs.Common.{sym, ◌∙◌, arith, length-take, eqb→eq, leb→le}
use Rattle.model.specs.Bytes.{is_bytes, field}
use Rattle.model.specs.Layout.{length_at, sequence_at, header_size, sequence_size, command_size, message_room}
use Rattle.model.specs.Message.{Message, dependency_count, command_count, total_length, sequence_of, layout_right, numbers_right, dependencies_right, content_right, passes}
use Rattle.laws_order.specs.TestLaws.{and_l, and_r, and_i}
use Rattle.laws_wire.specs.BytesLaws.{field_range, field_part}

pub passes_layout : (m : Message) → T (passes m) → T (layout_right m)
unfolding passes
passes_layout m t = search (and_l, and_r)

pub passes_numbers : (m : Message) → T (passes m) → T (numbers_right m)
unfolding passes
passes_numbers m t = search (and_l, and_r)

pub passes_all : (m : Message) → T (layout_right m) → T (numbers_right m) → T (dependencies_right m) → T (content_right m) → T (passes m)
unfolding passes
passes_all m a b c d =
    and_i (layout_right m && numbers_right m && dependencies_right m) (content_right m)
    (and_i (layout_right m && numbers_right m) (dependencies_right m) (and_i (layout_right m) (numbers_right m) a b) c) d

-- its lengths: T in the header is the number of bytes, 48 to 200
pub record Sized (m : Message) : Type 0 where
  pub dependencies : dependency_count m ≤ 8
  pub some_command : 1 ≤ command_count m
  pub commands : command_count m ≤ 8
  pub total : length m ≡ total_length (dependency_count m) (command_count m)
  pub stated : field m length_at 2 ≡ length m

pub layout_sized : (m : Message) → T (layout_right m) → Sized m
unfolding layout_right
layout_sized m t =
    let D = dependency_count m in
    let C = command_count m in
    let a : T (eqb (field m length_at 2) (total_length D C)) = search (and_l, and_r) depth 14 in
    let b : T (eqb (length m) (total_length D C)) = search (and_l, and_r) depth 14 in
    let c : T (leb D 8) = search (and_l, and_r) depth 14 in
    let d : T (leb 1 C) = search (and_l, and_r) depth 14 in
    let e : T (leb C 8) = search (and_l, and_r) depth 14 in
    record {
      dependencies = leb→le D 8 c;
      some_command = leb→le 1 C d;
      commands = leb→le C 8 e;
      total = eqb→eq (length m) (total_length D C) b;
      stated = eqb→eq (field m length_at 2) (total_length D C) a ∙ sym (eqb→eq (length m) (total_length D C) b);
    }

pub passes_sized : (m : Message) → T (passes m) → Sized m
passes_sized m t = layout_sized m (passes_layout m t)

pub sized_range : (m : Message) → Sized m → (header_size + command_size ≤ length m) × (length m ≤ message_room)
sized_range m s =
    let a : dependency_count m ≤ 8 = s.dependencies in
    let b : 1 ≤ command_count m = s.some_command in
    let c : command_count m ≤ 8 = s.commands in
    let d : length m ≡ 40 + 12 * dependency_count m + 8 * command_count m = s.total in
    (omega arith, omega arith)

-- one that is cut from a buffer by its length field is as long as that says
pub sized_cut : (b : List ℕ) (at : ℕ) → let n = field b (at + length_at) 2 in Sized (take n (drop at b)) → length (take n (drop at b)) ≡ n
sized_cut b at s =
    let n : ℕ = field b (at + length_at) 2 in
    let m : Message = take n (drop at b) in
    sym s.stated ∙ field_part b at n length_at 2 (omega (arith, (sized_range m s).0, length-take n (drop at b)))

pub layout_bytes : (m : Message) → T (layout_right m) → T (is_bytes m)
unfolding layout_right
layout_bytes m t = search (and_l, and_r) depth 14

-- a sequence fits its twelve bytes
pub sequence_range : (m : Message) → T (passes m) → sequence_of m < 256 ^ sequence_size
sequence_range m t = field_range m sequence_at sequence_size (layout_bytes m (passes_layout m t))
