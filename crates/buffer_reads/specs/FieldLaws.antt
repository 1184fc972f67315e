-- Numbers in a list of bytes: one byte, two neighbouring fields as one, and that a lent slice is a list of bytes.
use Rattle.std.specs.Prelude.{◌≡◌, refl, List, [], ◌∷◌, ◌++◌, ℕ, zero, suc, ◌+◌, ◌*◌, ◌/◌, ◌%◌, ◌^◌, ◌≤◌, ◌<◌, T, ltb, length, take, drop, get_or}
use Rattle.std.proofs.Common.{sym, ◌∙◌, ap, ap₂, arith, zero-add, suc-add, pow-suc, mod-lt, lt→ltb, lit<, lit≤, length-drop, pow-add, drop-cons, drop-drop, take-add, length-take-le}
use Rattle.std.proofs.Math.Nat.{div-div-eq-div-mul, one-le-pow}
use Rattle.std.proofs.Math.Arith.{mod-mul, digits_div, digits_mod}
use Rattle.model.specs.Bytes.{is_bytes, number_from, number, bytes, field}
use Rattle.laws_order.specs.TestLaws.{and_i}

-- a list whose elements are all below 256, as a slice's are
pub all_bytes : (b : List ℕ) → ((i : ℕ) → get_or b i 0 < 256) → T (is_bytes b)
all_bytes [] h = tt
all_bytes (x ∷ b) h = and_i (ltb x 256) (is_bytes b) (lt→ltb x 256 (h 0)) (all_bytes b (λ i. h (suc i)))

-- a field of one byte
pub field_byte : (b : List ℕ) (at : ℕ) → at < length b → field b at 1 ≡ get_or b at 0
field_byte b at h = ap (λ (l : List ℕ). number (take 1 l)) (drop-cons b at 0 h) ∙ omega arith

-- ---- two fields, one after the other, are one
number_from_append : (a : ℕ) (x y : List ℕ) → number_from a (x ++ y) ≡ number_from (number_from a x) y
number_from_append a [] y = refl
number_from_append a (b ∷ x) y = number_from_append (a * 256 + b) x y

regroup : (a x p r : ℕ) → (a * 256 + x) * p + r ≡ a * (p * 256) + (x * p + r)
regroup a x p r = omega arith

number_from_is : (a : ℕ) (b : List ℕ) → number_from a b ≡ a * 256 ^ length b + number b
number_from_is a [] = omega arith
number_from_is a (x ∷ b) =
    number_from_is (a * 256 + x) b ∙ regroup a x (256 ^ length b) (number b)
    ∙ ap₂ (λ (p r : ℕ). a * p + r) (sym (pow-suc 256 (length b))) (ap (λ (z : ℕ). z * 256 ^ length b + number b) (sym (zero-add x)) ∙ sym (number_from_is (0 * 256 + x) b))

pub field_split : (b : List ℕ) (at n k : ℕ) → at + (n + k) ≤ length b → field b at (n + k) ≡ field b at n * 256 ^ k + field b (at + n) k
field_split b at n k h =
    ap number (take-add n k (drop at b) ∙ ap (λ (l : List ℕ). take n (drop at b) ++ take k l) (drop-drop n at b))
    ∙ number_from_append 0 (take n (drop at b)) (take k (drop (at + n) b)) ∙ number_from_is (field b at n) (take k (drop (at + n) b))
    ∙ ap (λ (p : ℕ). field b at n * 256 ^ p + field b (at + n) k) (length-take-le k (drop (at + n) b) (omega (arith, length-drop (at + n) b)))

-- eight bytes from four fields of two
pub field_quarters : (b : List ℕ) (at : ℕ) {w x y z : ℕ} → at + 8 ≤ length b
    → w ≡ field b at 2 → x ≡ field b (at + 2) 2 → y ≡ field b (at + 4) 2 → z ≡ field b (at + 6) 2
    → w * 281474976710656 + x * 4294967296 + (y * 65536 + z) ≡ field b at 8
field_quarters b at h e f g i =
    let halves = field_split b at 4 4 h in
    let first = field_split b at 2 2 (omega arith) in
    let second = field_split b (at + 4) 2 2 (omega arith) in
    let last = ap (λ (k : ℕ). field b k 2) {x = at + 4 + 2} {y = at + 6} (omega arith) in
    omega arith

-- ---- the bytes of a number: those of its high part, and then those of its low part
pub bytes_split : (n k v : ℕ) → bytes (n + k) v ≡ bytes n (v / 256 ^ k) ++ bytes k v
bytes_split zero k v = ap (λ (x : ℕ). bytes x v) (zero-add k)
bytes_split (suc n) k v =
    ap (λ (x : ℕ). bytes x v) (suc-add n k)
    ∙ ap₂ ◌∷◌
    (ap (λ (x : ℕ). v / x % 256) (ap (λ (x : ℕ). 256 ^ x) {x = n + k} {y = k + n} (omega arith) ∙ pow-add 256 k n) ∙ ap (λ (x : ℕ). x % 256) (sym (div-div-eq-div-mul v (256 ^ k) (256 ^ n))))
    (bytes_split n k v)

-- a digit of a number is that of its low part
digit_low : (v p q : ℕ) → 0 < p → 0 < q → v % (q * 256 * p) / p % 256 ≡ v / p % 256
digit_low v p q h k =
    ap (λ (x : ℕ). x / p % 256) (mod-mul v {m = q * 256} {c = p} (omega arith) h)
    ∙ ap (λ (x : ℕ). x % 256) (digits_div (v / p % (q * 256)) {m = p} {r = v % p} (mod-lt v h))
    ∙ ap (λ (x : ℕ). x % 256) (mod-mul (v / p) {m = q} {c = 256} k (lit< tt)) ∙ digits_mod (v / p / 256 % q) {m = 256} {r = v / p % 256} (omega arith)

-- what lies above the written bytes is not written
pub bytes_low : (k j v : ℕ) → bytes k (v % 256 ^ (j + k)) ≡ bytes k v
bytes_low zero j v = refl
bytes_low (suc k) j v =
    ap₂ ◌∷◌
    (ap (λ (x : ℕ). v % x / 256 ^ k % 256) whole ∙ digit_low v (256 ^ k) (256 ^ j) (one-le-pow k 256 (lit≤ tt)) (one-le-pow j 256 (lit≤ tt)))
    (ap (λ (x : ℕ). bytes k (v % 256 ^ x)) {x = j + suc k} {y = suc j + k} (omega arith) ∙ bytes_low k (suc j) v)
  where
    whole : 256 ^ (j + suc k) ≡ 256 ^ j * 256 * 256 ^ k
    whole = ap (λ (x : ℕ). 256 ^ x) {x = j + suc k} {y = suc j + k} (omega arith) ∙ pow-add 256 (suc j) k ∙ ap (λ (x : ℕ). x * 256 ^ k) (pow-suc 256 j)
