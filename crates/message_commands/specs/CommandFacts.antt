-- What the tests of commands say, as facts.
use Rattle.std.specs.Prelude.{◌≡◌, true, false, not, List, ℕ, suc, ◌+◌, ◌-◌, ◌≤◌, ◌<◌, T, eqb, ltb, leb, take, drop}
use Rattle.std.proofs.Common.{sym, ◌∙◌, subst, ⊎_elim, arith, eqb→eq, leb→le, ltb→lt, le→leb, lt→ltb, nltb→le, lit≤, lt-ltb, le-ltb, le-leb}
use Rattle.std.proofs.Math.Bool.{and-true}
use Rattle.std.specs.Int.Signed.{le_z}
use Rattle.std.proofs.lemmas.Bool.{lt-leb}
use Rattle.model.specs.Bytes.{field, word}
use Rattle.model.specs.Layout.{operation_at, tag_at, command_zeros_at, value_at, command_size, tag_count, lowest_value, highest_value}
use Rattle.model.specs.Message.{value_of, command_right}
use Rattle.laws_order.specs.TestLaws.{and_l, and_r, and_i, decide, is_true, false_of, eq→eqb, same_leb}
use Rattle.laws_wire.specs.BytesLaws.{field_part, field_part_start}
use Rattle.message_commands.specs.CommandTests.{value_right}

-- ---- the command that starts at a place
pub record Command (b : List ℕ) (at : ℕ) : Type 0 where
  pub least : 1 ≤ field b at 1
  pub most : field b at 1 ≤ 3
  pub tag : field b (at + tag_at) 1 < tag_count
  pub zeros : field b (at + command_zeros_at) 2 ≡ 0
  pub value : T (value_right (field b (at + value_at) 4))

-- its fields by themselves are those of the bytes around it
record SameFields (b : List ℕ) (at : ℕ) (c : List ℕ) : Type 0 where
  operation : field c operation_at 1 ≡ field b at 1
  tag : field c tag_at 1 ≡ field b (at + tag_at) 1
  zeros : field c command_zeros_at 2 ≡ field b (at + command_zeros_at) 2
  value : field c value_at 4 ≡ field b (at + value_at) 4

same_fields : (b : List ℕ) (at : ℕ) → SameFields b at (take command_size (drop at b))
same_fields b at = record {
  operation = field_part_start b at command_size 1 (lit≤ tt);
  tag = field_part b at command_size tag_at 1 (lit≤ tt);
  zeros = field_part b at command_size command_zeros_at 2 (lit≤ tt);
  value = field_part b at command_size value_at 4 (lit≤ tt);
}

command_out : (b : List ℕ) (at : ℕ) (c : List ℕ) → SameFields b at c → T (command_right c) → Command b at
unfolding command_right value_right
command_out b at c w t =
    let low : T (le_z lowest_value (value_of c)) = search (and_l, and_r) depth 9 in
    let high : T (le_z (value_of c) highest_value) = search (and_l, and_r) depth 9 in
    record {
      least = omega (arith, leb→le 1 (field c operation_at 1) (search (and_l, and_r) depth 9));
      most = omega (arith, leb→le (field c operation_at 1) 3 (search (and_l, and_r) depth 9));
      tag = omega (arith, ltb→lt (field c tag_at 1) tag_count (search (and_l, and_r) depth 9));
      zeros = omega (arith, eqb→eq (field c command_zeros_at 2) 0 (search (and_l, and_r) depth 9));
      value = subst (λ (n : ℕ). T (value_right n)) w.value (and_i (le_z lowest_value (value_of c)) (le_z (value_of c) highest_value) low high);
    }

command_in : (b : List ℕ) (at : ℕ) (c : List ℕ) → SameFields b at c → Command b at → T (command_right c)
unfolding command_right value_right
command_in b at c w f =
    let value : T (value_right (field c value_at 4)) = subst (λ (n : ℕ). T (value_right n)) (sym w.value) f.value in
    let least : T (leb 1 (field c operation_at 1)) = le→leb 1 (field c operation_at 1) (omega arith) in
    let most : T (leb (field c operation_at 1) 3) = le→leb (field c operation_at 1) 3 (omega arith) in
    let tag : T (ltb (field c tag_at 1) tag_count) = lt→ltb (field c tag_at 1) tag_count (omega arith) in
    let zeros : T (eqb (field c command_zeros_at 2) 0) = eq→eqb {a = field c command_zeros_at 2} {b = 0} (omega arith) in
    let low : T (le_z lowest_value (value_of c)) = and_l (le_z lowest_value (value_of c)) (le_z (value_of c) highest_value) value in
    let high : T (le_z (value_of c) highest_value) = and_r (le_z lowest_value (value_of c)) (le_z (value_of c) highest_value) value in
    search and_i depth 8

-- the test as the answer of its check
pub command_wrong : (b : List ℕ) (at : ℕ) → (Command b at → ⊥) → false ≡ command_right (take command_size (drop at b))
command_wrong b at f = sym (false_of (command_right (take command_size (drop at b))) (λ t. f (command_out b at (take command_size (drop at b)) (same_fields b at) t)))

pub command_right_lem : (b : List ℕ) (at : ℕ) → Command b at → true ≡ command_right (take command_size (drop at b))
command_right_lem b at f = sym (is_true (command_right (take command_size (drop at b))) (command_in b at (take command_size (drop at b)) (same_fields b at) f))

-- ---- the value: two's complement of four bytes
pub value_high : (n : ℕ) → n ≤ word highest_value → value_right n ≡ true
unfolding value_right
value_high n h = simp (lt-ltb n 2147483648 (omega arith), le-leb n (word highest_value) h)

pub value_low : (n : ℕ) → n < 4294967296 → word highest_value < n → value_right n ≡ leb (word lowest_value) n
unfolding value_right
value_low n k h = ⊎_elim positive negative (decide (ltb n 2147483648))
  where
    -- how far below -1 a value may lie
    depth : ℕ
    depth = 4294967296 - suc (word lowest_value)

    positive : T (ltb n 2147483648) → value_right n ≡ leb (word lowest_value) n
    positive t =
        let small : n < 2147483648 = ltb→lt n 2147483648 t in
        simp (lt-ltb n 2147483648 small, lt-leb n (word highest_value) h, lt-leb (word lowest_value) n (omega arith))

    negative : T (not (ltb n 2147483648)) → value_right n ≡ leb (word lowest_value) n
    negative t =
        simp (le-ltb n 2147483648 (nltb→le n 2147483648 t), lt-ltb n 4294967296 k)
        (and-true (leb (4294967296 - suc n) depth) ∙ same_leb (4294967296 - suc n) depth (word lowest_value) n (λ e. omega arith) (λ e. omega arith))
