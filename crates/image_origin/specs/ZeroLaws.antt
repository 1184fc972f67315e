-- Values are zero exactly if all their bytes are.
use Rattle.std.specs.Prelude.{◌≡◌, refl, Bool, not, ◌&&◌, List, [], ◌∷◌, ◌++◌, map, ℕ, zero, suc, ◌+◌, ◌*◌, ◌^◌, ◌≤◌, ◌<◌, length, take, drop, T, eqb, ltb, leb}
use Rattle.std.proofs.Common.{sym, ◌∙◌, ap, ap₂, ⊎_elim, arith, length-drop, length-take-le, take-add, eqb→eq, leb→le, le→leb, ltb→lt, nltb→le, lt-ltb, le-ltb, ne_eqb}
use Rattle.std.proofs.Math.Bool.{and-true, and_assoc}
use Rattle.model.specs.Lists.{every}
use Rattle.model.specs.Bytes.{is_bytes, number_from, number, parts, integer}
use Rattle.model.specs.Layout.{value_size, tag_count, values_size, base_start}
use Rattle.model.specs.Order.{is_zero}
use Rattle.model.specs.Image.{messages_start_in, base_in}
use Rattle.laws_order.specs.TestLaws.{and_l, and_r, and_i, eq→eqb, decide, same_test}
use Rattle.laws_wire.specs.BytesLaws.{number_range, is_bytes_take, is_bytes_drop}
use Rattle.laws_origin.specs.OriginLaws.{base_is, start_least}

abbrev zero_byte : ℕ → Bool
zero_byte x = eqb x 0

-- ---- a value
zero_word : (n : ℕ) → n < 4294967296 → is_zero (integer n) ≡ eqb n 0
zero_word n h = ⊎_elim low high (decide (ltb n 2147483648))
  where
    low : T (ltb n 2147483648) → is_zero (integer n) ≡ eqb n 0
    low t =
        simp (lt-ltb n 2147483648 (ltb→lt n 2147483648 t))
        (same_test (leb n 0 && leb 0 n) (eqb n 0)
        (λ u. eq→eqb {a = n} {b = 0} (omega (arith, leb→le n 0 (and_l (leb n 0) (leb 0 n) u))))
        (λ u. and_i (leb n 0) (leb 0 n) (le→leb n 0 (omega (arith, eqb→eq n 0 u))) (le→leb 0 n (omega arith))))

    high : T (not (ltb n 2147483648)) → is_zero (integer n) ≡ eqb n 0
    high t =
        let large : 2147483648 ≤ n = nltb→le n 2147483648 t in
        simp (le-ltb n 2147483648 large, lt-ltb n 4294967296 h) (sym (ne_eqb n 0 (λ e. omega arith)))

zero_from : (p : List ℕ) (a : ℕ) → eqb (number_from a p) 0 ≡ eqb a 0 && every zero_byte p
zero_from [] a = sym (and-true (eqb a 0))
zero_from (x ∷ p) a =
    zero_from p (a * 256 + x)
    ∙ ap (λ (t : Bool). t && every zero_byte p) (same_test (eqb (a * 256 + x) 0) (eqb a 0 && eqb x 0)
    (λ t. let e : a * 256 + x ≡ 0 = eqb→eq (a * 256 + x) 0 t in and_i (eqb a 0) (eqb x 0) (eq→eqb {a = a} {b = 0} (omega arith)) (eq→eqb {a = x} {b = 0} (omega arith)))
    (λ t. eq→eqb {a = a * 256 + x} {b = 0} (omega (arith, eqb→eq a 0 (and_l (eqb a 0) (eqb x 0) t), eqb→eq x 0 (and_r (eqb a 0) (eqb x 0) t)))))
    ∙ and_assoc (eqb a 0) (eqb x 0) (every zero_byte p)

zero_value : (p : List ℕ) → length p ≡ value_size → T (is_bytes p) → is_zero (integer (number p)) ≡ every zero_byte p
zero_value p e t = zero_word (number p) (omega (arith, number_range p t, ap (λ (n : ℕ). 256 ^ n) e)) ∙ zero_from p 0

-- ---- values end to end
every_append : (p : ℕ → Bool) (a b : List ℕ) → every p (a ++ b) ≡ every p a && every p b
every_append p [] b = refl
every_append p (x ∷ a) b = ap (λ (t : Bool). p x && t) (every_append p a b) ∙ sym (and_assoc (p x) (every p a) (every p b))

zero_parts : (n : ℕ) (b : List ℕ) → T (is_bytes b) → n * value_size ≤ length b
    → every is_zero (map (λ p. integer (number p)) (parts n value_size b)) ≡ every zero_byte (take (n * value_size) b)
zero_parts zero b t h = refl
zero_parts (suc n) b t h =
    ap₂ ◌&&◌
    (zero_value (take value_size b) (length-take-le value_size b (omega arith)) (is_bytes_take value_size b t))
    (zero_parts n (drop value_size b) (is_bytes_drop value_size b t) (omega (arith, length-drop value_size b)))
    ∙ sym (every_append zero_byte (take value_size b) (take (n * value_size) (drop value_size b)))
    ∙ ap (every zero_byte) (sym (take-add value_size (n * value_size) b))
    ∙ ap (λ (k : ℕ). every zero_byte (take k b)) {x = value_size + n * value_size} {y = suc n * value_size} (omega arith)

pub base_zero : (b : List ℕ) → T (is_bytes b) → messages_start_in b ≤ length b → every is_zero (base_in b) ≡ every (λ x. eqb x 0) (take values_size (drop base_start b))
base_zero b t h =
    ap (every is_zero) (base_is b h)
    ∙ zero_parts tag_count (drop base_start b) (is_bytes_drop base_start b t) (omega (arith, start_least b, length-drop base_start b))
