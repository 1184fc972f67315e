-- What the tests of code 3 say, as facts.
use Rattle.std.specs.Prelude.{◌≡◌, refl, Bool, true, false, ◌&&◌, ◌≤◌, ◌<◌, length, T, eqb, leb}
use Rattle.std.proofs.Common.{sym, arith, eqb→eq, leb→le, le→leb}
use Rattle.model.specs.Bytes.{is_bytes, field}
use Rattle.model.specs.Layout.{kind_at, priority_flag_at, most_dependencies, most_commands, length_at, dependencies_offset_at, commands_offset_at, first_zeros_at, last_zeros_at, header_size}
use Rattle.model.specs.Message.{Message, dependency_count, command_count, total_length, commands_start, layout_right}
use Rattle.laws_order.specs.TestLaws.{and_l, and_r, and_i, is_true, false_of, eq→eqb}
use Rattle.laws_wire.specs.MessageLaws.{layout_sized, sized_range}
use Rattle.message_header.specs.Check.{counts_right, offsets_right}

pub record Counts (m : Message) : Type 0 where
  pub kind : field m kind_at 1 ≡ 1
  pub flag : field m priority_flag_at 1 ≤ 1
  pub dependencies : dependency_count m ≤ most_dependencies
  pub some_command : 1 ≤ command_count m
  pub commands : command_count m ≤ most_commands

counts_out : (m : Message) → T (counts_right m) → Counts m
unfolding counts_right
counts_out m t = record {
  kind = eqb→eq (field m kind_at 1) 1 (search (and_l, and_r) depth 8);
  flag = leb→le (field m priority_flag_at 1) 1 (search (and_l, and_r) depth 8);
  dependencies = leb→le (dependency_count m) most_dependencies (search (and_l, and_r) depth 8);
  some_command = leb→le 1 (command_count m) (search (and_l, and_r) depth 8);
  commands = leb→le (command_count m) most_commands (search (and_l, and_r) depth 8);
}

counts_in : (m : Message) → Counts m → T (counts_right m)
unfolding counts_right
counts_in m f =
    let a : T (eqb (field m kind_at 1) 1) = eq→eqb f.kind in
    let b : T (leb (field m priority_flag_at 1) 1) = le→leb _ _ f.flag in
    let c : T (leb (dependency_count m) most_dependencies) = le→leb _ _ f.dependencies in
    let d : T (leb 1 (command_count m)) = le→leb _ _ f.some_command in
    let e : T (leb (command_count m) most_commands) = le→leb _ _ f.commands in
    search and_i depth 8

pub record Offsets (m : Message) : Type 0 where
  pub stated : field m length_at 2 ≡ total_length (dependency_count m) (command_count m)
  pub total : length m ≡ total_length (dependency_count m) (command_count m)
  pub dependencies : field m dependencies_offset_at 2 ≡ header_size
  pub commands : field m commands_offset_at 2 ≡ commands_start (dependency_count m)
  pub first_zeros : field m first_zeros_at 2 ≡ 0
  pub last_zeros : field m last_zeros_at 4 ≡ 0

offsets_out : (m : Message) → T (offsets_right m) → Offsets m
unfolding offsets_right
offsets_out m t =
    let D = dependency_count m in
    let C = command_count m in
    record {
      stated = eqb→eq (field m length_at 2) (total_length D C) (search (and_l, and_r) depth 9);
      total = eqb→eq (length m) (total_length D C) (search (and_l, and_r) depth 9);
      dependencies = eqb→eq (field m dependencies_offset_at 2) header_size (search (and_l, and_r) depth 9);
      commands = eqb→eq (field m commands_offset_at 2) (commands_start D) (search (and_l, and_r) depth 9);
      first_zeros = eqb→eq (field m first_zeros_at 2) 0 (search (and_l, and_r) depth 9);
      last_zeros = eqb→eq (field m last_zeros_at 4) 0 (search (and_l, and_r) depth 9);
    }

offsets_in : (m : Message) → Offsets m → T (offsets_right m)
unfolding offsets_right
offsets_in m f =
    let D = dependency_count m in
    let C = command_count m in
    let a : T (eqb (field m length_at 2) (total_length D C)) = eq→eqb f.stated in
    let b : T (eqb (length m) (total_length D C)) = eq→eqb f.total in
    let c : T (eqb (field m dependencies_offset_at 2) header_size) = eq→eqb f.dependencies in
    let d : T (eqb (field m commands_offset_at 2) (commands_start D)) = eq→eqb f.commands in
    let e : T (eqb (field m first_zeros_at 2) 0) = eq→eqb f.first_zeros in
    let g : T (eqb (field m last_zeros_at 4) 0) = eq→eqb f.last_zeros in
    search and_i depth 8

-- the two parts are the whole, of bytes
pub layout_parts : (m : Message) → T (is_bytes m) → layout_right m ≡ counts_right m && offsets_right m
unfolding layout_right counts_right offsets_right
layout_parts m t = go (is_bytes m) t _ _ _ _ _ _ _ _ _ _ _
  where
    split : (p f g h i j k : Bool) → p && f && g && h && i && j && k ≡ p && (f && g && h && i && j && k)
    split true f g h i j k = refl
    split false f g h i j k = refl

    go : (z : Bool) → T z → (a b c d e f g h i j k : Bool)
        → z && a && b && c && d && e && f && g && h && i && j && k ≡ a && b && c && d && e && (f && g && h && i && j && k)
    go true t a b c d e f g h i j k = split (a && b && c && d && e) f g h i j k
    go false t a b c d e f g h i j k = absurd t

-- fewer bytes than a header's are no message
pub short_wrong : (m : Message) → length m < header_size → layout_right m ≡ false
short_wrong m h = false_of (layout_right m) (λ t. let r = sized_range m (layout_sized m t) in omega arith)

-- each part as the answer of its check
pub counts_wrong : {m : Message} → (Counts m → ⊥) → false ≡ counts_right m
counts_wrong {m} f = sym (false_of (counts_right m) (λ t. f (counts_out m t)))

pub counts_right_lem : {m : Message} → Counts m → true ≡ counts_right m
counts_right_lem {m} f = sym (is_true (counts_right m) (counts_in m f))

pub offsets_wrong : {m : Message} → (Offsets m → ⊥) → false ≡ offsets_right m
offsets_wrong {m} f = sym (false_of (offsets_right m) (λ t. f (offsets_out m t)))

pub offsets_right_lem : {m : Message} → Offsets m → true ≡ offsets_right m
offsets_right_lem {m} f = sym (is_true (offsets_right m) (offsets_in m f))
