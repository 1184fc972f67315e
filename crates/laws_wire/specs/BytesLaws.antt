-- Numbers and lists of bytes: what is written is read back, and what is read is in range.
use Rattle.std.specs.Prelude.{◌≡◌, refl, Bool, true, false, cond, not, List, [], ◌∷◌, ◌++◌, map, ℕ, zero, suc, ◌+◌, ◌*◌, ◌-◌, ◌/◌, ◌%◌, ◌^◌, ◌≤◌, ◌<◌, T, ltb, length, take, drop, get_or, ℤ, pos, negsuc}
use Rattle.std.proofs.Common.{sym, ◌∙◌, ap, ap₂, subst, ⊎_elim, append_assoc, arith, mod-eq_of_lt, pow-suc, mul-zero, mul-suc, mul_assoc, mul_comm, le_of_suc-le-suc, lt_of_lt_of_le, lit<, lit≤, ltb→lt, lt→ltb, nltb→le, length-append, length-drop, length-take, take-append-drop, length-take-le, take_at, drop_at, take-take, take-add, drop-drop, to_z-of_z}
use mathlib.Core.List.Memᴰ
use Rattle.std.proofs.Math.Nat.{one-le-pow, pow-le-pow_right, div-eq_of_lt, mul-add-div_right}
use Rattle.std.proofs.Math.Arith.{mod-mul}
use Rattle.std.proofs.lemmas.List.{take-append-le, drop-append-le}
use Rattle.std.proofs.Math.Seq.{drop-append-add}
use Rattle.std.specs.Int.Signed.{mag}
use Rattle.std.specs.Int.{w32}
use mir.Val.{to_z, of_z, sel}
use Rattle.std.proofs.Math.Facts.{of_z-to_z}
use Rattle.model.specs.Lists.{◌∈◌, sum}
use Rattle.model.specs.Bytes.{is_bytes, number_from, number, bytes, field, fields_bytes, numbers_in, parts, join, integer, word}
use Rattle.laws_order.specs.TestLaws.{and_l, and_r, and_i}

-- ---- a number's bytes
pub length_bytes : (size n : ℕ) → length (bytes size n) ≡ size
length_bytes zero n = refl
length_bytes (suc size) n = ap suc (length_bytes size n)

regroup : (a b p r : ℕ) → (a * 256 + b) * p + r ≡ a * (256 * p) + (b * p + r)
regroup a b p r = omega arith

pow_256 : (size : ℕ) → 256 ^ suc size ≡ 256 * 256 ^ size
pow_256 size = pow-suc 256 size ∙ mul_comm (256 ^ size) 256

number_from_bytes : (size n a : ℕ) → number_from a (bytes size n) ≡ a * 256 ^ size + n % 256 ^ size
number_from_bytes zero n a = omega arith
number_from_bytes (suc size) n a =
    number_from_bytes size n (a * 256 + n / 256 ^ size % 256) ∙ regroup a (n / 256 ^ size % 256) (256 ^ size) (n % 256 ^ size)
    ∙ ap₂ (λ (x y : ℕ). a * x + y) (sym (pow_256 size)) (sym split)
  where
    split : n % 256 ^ suc size ≡ n / 256 ^ size % 256 * 256 ^ size + n % 256 ^ size
    split = ap (λ (x : ℕ). n % x) (pow_256 size) ∙ mod-mul n (lit< tt) (one-le-pow size 256 (lit≤ tt))

-- a number that fits is read back from its bytes
pub number_bytes : (size n : ℕ) → n < 256 ^ size → number (bytes size n) ≡ n
number_bytes size n h = number_from_bytes size n 0 ∙ omega (arith, mod-eq_of_lt h)

pub bytes_is_bytes : (size n : ℕ) → T (is_bytes (bytes size n))
bytes_is_bytes zero n = tt
bytes_is_bytes (suc size) n =
    and_i (ltb (n / 256 ^ size % 256) 256) (is_bytes (bytes size n)) (lt→ltb (n / 256 ^ size % 256) 256 (omega arith)) (bytes_is_bytes size n)

-- ---- lists of bytes
pub is_bytes_append : (a b : List ℕ) → T (is_bytes a) → T (is_bytes b) → T (is_bytes (a ++ b))
is_bytes_append [] b p q = q
is_bytes_append (x ∷ a) b p q = and_i (ltb x 256) (is_bytes (a ++ b)) (and_l (ltb x 256) (is_bytes a) p) (is_bytes_append a b (and_r (ltb x 256) (is_bytes a) p) q)

pub is_bytes_take : (n : ℕ) (b : List ℕ) → T (is_bytes b) → T (is_bytes (take n b))
is_bytes_take zero b p = tt
is_bytes_take (suc n) [] p = tt
is_bytes_take (suc n) (x ∷ b) p = and_i (ltb x 256) (is_bytes (take n b)) (and_l (ltb x 256) (is_bytes b) p) (is_bytes_take n b (and_r (ltb x 256) (is_bytes b) p))

pub is_bytes_drop : (n : ℕ) (b : List ℕ) → T (is_bytes b) → T (is_bytes (drop n b))
is_bytes_drop zero b p = p
is_bytes_drop (suc n) [] p = tt
is_bytes_drop (suc n) (x ∷ b) p = is_bytes_drop n b (and_r (ltb x 256) (is_bytes b) p)

number_from_range : (b : List ℕ) (a p : ℕ) → T (is_bytes b) → a < p → number_from a b < p * 256 ^ length b
number_from_range [] a p t h = omega arith
number_from_range (x ∷ b) a p t h =
    let x-byte : x < 256 = ltb→lt x 256 (and_l (ltb x 256) (is_bytes b) t) in
    subst (λ (z : ℕ). number_from (a * 256 + x) b < z) (mul_assoc p 256 (256 ^ length b) ∙ ap (λ (z : ℕ). p * z) (sym (pow_256 (length b))))
    (number_from_range b (a * 256 + x) (p * 256) (and_r (ltb x 256) (is_bytes b) t) (omega arith))

pub number_range : (b : List ℕ) → T (is_bytes b) → number b < 256 ^ length b
number_range b t = let h : number_from 0 b < 1 * 256 ^ length b = number_from_range b 0 1 t (lit< tt) in omega arith

-- bytes are those of their number
number_from_split : (b : List ℕ) (a : ℕ) → number_from a b ≡ a * 256 ^ length b + number b
number_from_split [] a = omega arith
number_from_split (x ∷ b) a =
    number_from_split b (a * 256 + x) ∙ regroup a x (256 ^ length b) (number b)
    ∙ ap₂ (λ (p r : ℕ). a * p + r) (sym (pow_256 (length b)))
    (ap (λ (y : ℕ). y * 256 ^ length b + number b) {x = x} {y = 0 * 256 + x} (omega arith) ∙ sym (number_from_split b (0 * 256 + x)))

bytes_number_from : (b : List ℕ) (a : ℕ) → T (is_bytes b) → bytes (length b) (number_from a b) ≡ b
bytes_number_from [] a t = refl
bytes_number_from (x ∷ b) a t = ap₂ ◌∷◌ first (bytes_number_from b (a * 256 + x) rest)
  where
    rest : T (is_bytes b)
    rest = and_r (ltb x 256) (is_bytes b) t

    first : number_from (a * 256 + x) b / 256 ^ length b % 256 ≡ x
    first =
        let x-byte : x < 256 = ltb→lt x 256 (and_l (ltb x 256) (is_bytes b) t) in
        ap (λ (n : ℕ). n / 256 ^ length b % 256) (number_from_split b (a * 256 + x))
        ∙ ap (λ (n : ℕ). n % 256) (mul-add-div_right (one-le-pow (length b) 256 (lit≤ tt)) (a * 256 + x) (number b))
        ∙ ap (λ (n : ℕ). (a * 256 + x + n) % 256) (div-eq_of_lt (number_range b rest)) ∙ omega arith

pub bytes_number : (b : List ℕ) → T (is_bytes b) → bytes (length b) (number b) ≡ b
bytes_number b t = bytes_number_from b 0 t

-- a field of `size` bytes fits `size` bytes
pub field_range : (b : List ℕ) (at size : ℕ) → T (is_bytes b) → field b at size < 256 ^ size
field_range b at size t =
    lt_of_lt_of_le (number_range (take size (drop at b)) (is_bytes_take size (drop at b) (is_bytes_drop at b t)))
    (pow-le-pow_right (lit< tt) (omega (arith, length-take size (drop at b))))

-- a field that lies in the first of two lists is the first one's
pub field_append : (a b : List ℕ) (at size : ℕ) → at + size ≤ length a → field (a ++ b) at size ≡ field a at size
field_append a b at size h =
    ap number (ap (take size) (drop-append-le at a b (omega arith)) ∙ take-append-le size (drop at a) b (omega (arith, length-drop at a)))

-- a field of a part is a field of the whole
pub take_drop_take : (n i size : ℕ) (b : List ℕ) → i + size ≤ n → take size (drop i (take n b)) ≡ take size (drop i b)
take_drop_take n zero size b h = take-take size n b (omega arith)
take_drop_take zero (suc i) size b h = let z : ⊥ = omega arith in absurd z
take_drop_take (suc n) (suc i) size [] h = refl
take_drop_take (suc n) (suc i) size (x ∷ b) h = take_drop_take n i size b (omega arith)

-- two lists that agree on their first n items agree on what lies within them
pub part_agrees : (a b : List ℕ) (n : ℕ) → take n a ≡ take n b → (i size : ℕ) → i + size ≤ n → take size (drop i b) ≡ take size (drop i a)
part_agrees a b n agree i size h = sym (take_drop_take n i size b h) ∙ ap (λ (l : List ℕ). take size (drop i l)) (sym agree) ∙ take_drop_take n i size a h

pub field_part : (b : List ℕ) (at n i size : ℕ) → i + size ≤ n → field (take n (drop at b)) i size ≡ field b (at + i) size
field_part b at n i size h = ap number (take_drop_take n i size (drop at b) h ∙ ap (take size) (drop-drop i at b))

pub field_part_start : (b : List ℕ) (at n size : ℕ) → size ≤ n → field (take n (drop at b)) 0 size ≡ field b at size
field_part_start b at n size h = ap number (take-take size n (drop at b) h)

-- ---- fields, each of which begins where the one before it ends
abbrev pub Adjoining : ℕ → List (ℕ × ℕ) → Type 0
Adjoining at [] = Unit {0}
Adjoining at (f ∷ l) = (f.0 ≡ at) × Adjoining (at + f.1) l

-- each has room for its number
abbrev pub Roomy : List (ℕ × ℕ) → List ℕ → Type 0
Roomy [] [] = Unit {0}
Roomy [] (n ∷ k) = ⊥
Roomy (f ∷ l) [] = ⊥
Roomy (f ∷ l) (n ∷ k) = (n < 256 ^ f.1) × Roomy l k

-- what is written in fields is read back from them
pub fields_back : (l : List (ℕ × ℕ)) (k front rest : List ℕ) → Adjoining (length front) l → Roomy l k → numbers_in l (front ++ (fields_bytes l k ++ rest)) ≡ k
fields_back [] [] front rest o r = refl
fields_back [] (n ∷ k) front rest o r = absurd r
fields_back (f ∷ l) [] front rest o r = absurd r
fields_back (f ∷ l) (n ∷ k) front rest o r = ap₂ ◌∷◌ here (ap (numbers_in l) moved
    ∙ fields_back l k (front ++ first) rest (subst (λ (at : ℕ). Adjoining at l) (sym length_front) o.1) r.1)
  where
    first : List ℕ
    first = bytes f.1 n

    behind : List ℕ
    behind = fields_bytes l k ++ rest

    length_front : length (front ++ first) ≡ length front + f.1
    length_front = length-append front first ∙ ap (λ (x : ℕ). length front + x) (length_bytes f.1 n)

    whole : (first ++ fields_bytes l k) ++ rest ≡ first ++ behind
    whole = append_assoc first (fields_bytes l k) rest

    moved : front ++ ((first ++ fields_bytes l k) ++ rest) ≡ (front ++ first) ++ behind
    moved = ap (λ (x : List ℕ). front ++ x) whole ∙ sym (append_assoc front first behind)

    here : field (front ++ ((first ++ fields_bytes l k) ++ rest)) f.0 f.1 ≡ n
    here =
        ap₂ (λ (x : List ℕ) (at : ℕ). field (front ++ x) at f.1) whole o.0
        ∙ ap (λ (x : List ℕ). number (take f.1 x)) (drop_at front (first ++ behind) (length front) refl)
        ∙ ap number (take_at first behind f.1 (length_bytes f.1 n)) ∙ number_bytes f.1 n r.0

-- ---- parts of equal size, end to end
pub length_parts : (n size : ℕ) (b : List ℕ) → length (parts n size b) ≡ n
length_parts zero size b = refl
length_parts (suc n) size b = ap suc (length_parts n size (drop size b))

pub parts_at : (n size : ℕ) (b : List ℕ) (k : ℕ) → k < n → get_or (parts n size b) k [] ≡ take size (drop (size * k) b)
parts_at zero size b k h = let z : ⊥ = omega arith in absurd z
parts_at (suc n) size b zero h = rw mul-zero
parts_at (suc n) size b (suc k) h =
    parts_at n size (drop size b) k (le_of_suc-le-suc h)
    ∙ ap (take size) (drop-drop (size * k) size b ∙ ap (λ (x : ℕ). drop x b) {x = size + size * k} {y = size * suc k} (omega (arith, mul-suc size k)))

pub parts_join : (size : ℕ) (l : List (List ℕ)) (rest : List ℕ) → ((b : List ℕ) → b ∈ l → length b ≡ size) → parts (length l) size (join l ++ rest) ≡ l
parts_join size [] rest h = refl
parts_join size (b ∷ l) rest h =
    rw (append_assoc, take_at b (join l ++ rest) size (h b (Memᴰ.head refl)), drop_at b (join l ++ rest) size (h b (Memᴰ.head refl)))
    (ap (λ (k : List (List ℕ)). b ∷ k) (parts_join size l rest (λ c k. h c (Memᴰ.tail k))))

pub parts_sized : (n size : ℕ) (b : List ℕ) → n * size ≤ length b → (p : List ℕ) → p ∈ parts n size b → length p ≡ size
parts_sized zero size b h p k = absurd (Memᴰ.not-nil k)
parts_sized (suc n) size b h p k =
    ⊎_elim
    (λ e. ap length e ∙ length-take-le size b (omega arith))
    (parts_sized n size (drop size b) (omega (arith, length-drop size b)) p)
    (Memᴰ.cases_cons k)

pub parts_bytes : (n size : ℕ) (b : List ℕ) → T (is_bytes b) → (p : List ℕ) → p ∈ parts n size b → T (is_bytes p)
parts_bytes zero size b h p k = absurd (Memᴰ.not-nil k)
parts_bytes (suc n) size b h p k =
    ⊎_elim
    (λ e. subst (λ (x : List ℕ). T (is_bytes x)) (sym e) (is_bytes_take size b h))
    (parts_bytes n size (drop size b) (is_bytes_drop size b h) p)
    (Memᴰ.cases_cons k)

pub join_parts : (n size : ℕ) (b : List ℕ) → length b ≡ n * size → join (parts n size b) ≡ b
join_parts zero size [] h = refl
join_parts zero size (x ∷ b) h = let z : ⊥ = omega arith in absurd z
join_parts (suc n) size b h =
    ap (λ (l : List ℕ). take size b ++ l) (join_parts n size (drop size b) (omega (arith, length-drop size b))) ∙ take-append-drop size b

-- parts that are written as they were read
pub parts_written : (f : List ℕ → List ℕ) (n size : ℕ) (b : List ℕ) → ((p : List ℕ) → length p ≡ size → T (is_bytes p) → f p ≡ p)
    → T (is_bytes b) → n * size ≤ length b → join (map f (parts n size b)) ≡ take (n * size) b
parts_written f zero size b same t h = ap (λ (k : ℕ). take k b) {x = 0} {y = 0 * size} (omega arith)
parts_written f (suc n) size b same t h =
    ap₂ ◌++◌
    (same (take size b) (length-take-le size b (omega arith)) (is_bytes_take size b t))
    (parts_written f n size (drop size b) same (is_bytes_drop size b t) (omega (arith, length-drop size b)))
    ∙ sym (take-add size (n * size) b) ∙ ap (λ (k : ℕ). take k b) {x = size + n * size} {y = suc n * size} (omega arith)

pub length_join : (size : ℕ) (l : List (List ℕ)) → ((b : List ℕ) → b ∈ l → length b ≡ size) → length (join l) ≡ length l * size
length_join size [] h = omega arith
length_join size (b ∷ l) h =
    length-append b (join l) ∙ omega (arith, h b (Memᴰ.head refl), length_join size l (λ c k. h c (Memᴰ.tail k)))

pub join_bytes : (l : List (List ℕ)) → ((b : List ℕ) → b ∈ l → T (is_bytes b)) → T (is_bytes (join l))
join_bytes [] h = tt
join_bytes (b ∷ l) h = is_bytes_append b (join l) (h b (Memᴰ.head refl)) (join_bytes l (λ c k. h c (Memᴰ.tail k)))

pub sum_lengths : (l : List (List ℕ)) → sum length l ≡ length (join l)
sum_lengths [] = refl
sum_lengths (b ∷ l) = omega (arith, length-append b (join l), sum_lengths l)

pub join_append : (l k : List (List ℕ)) → join l ++ join k ≡ join (l ++ k)
join_append [] k = refl
join_append (b ∷ l) k = append_assoc b (join l) (join k) ∙ ap (λ (x : List ℕ). b ++ x) (join_append l k)

-- where a section lies: past those before it stands the n-th, and then those behind it
pub section_at : (l : List (List ℕ)) (n : ℕ) (rest : List ℕ) → n < length l
    → drop (length (join (take n l))) (join l ++ rest) ≡ get_or l n [] ++ (join (drop (suc n) l) ++ rest)
section_at [] n rest h = let z : ⊥ = omega arith in absurd z
section_at (b ∷ l) zero rest h = append_assoc b (join l) rest
section_at (b ∷ l) (suc n) rest h =
    ap₂ drop (length-append b (join (take n l))) (append_assoc b (join l) rest)
    ∙ drop-append-add b (join l ++ rest) (length (join (take n l))) ∙ section_at l n rest (le_of_suc-le-suc h)

-- ---- integers
-- the language's own reading of a 32-bit number as signed, and its bits
pub integer_to_z : (n : ℕ) → n < 4294967296 → integer n ≡ to_z w32 n
integer_to_z n h = go (ltb n 2147483648) (ltb n 4294967296) (nltb→le n 4294967296)
  where
    go : (b c : Bool) → (T (not c) → 4294967296 ≤ n)
        → cond b (pos n) (cond c (negsuc (4294967296 - suc n)) (pos (n - 4294967296))) ≡ sel b (pos n) (negsuc (4294967296 - suc n))
    go true c f = refl
    go false true f = refl
    go false false f = absurd (let k : 4294967296 ≤ n = f tt in omega arith)

pub word_of_z : (z : ℤ) → word z ≡ of_z w32 z
word_of_z (pos n) = refl
word_of_z (negsuc n) = refl

-- an integer of 32 bits is read back from its bits
pub integer_word : (z : ℤ) → mag z < 2147483648 → (word z < 4294967296) × (integer (word z) ≡ z)
integer_word z h = (range z h, integer_to_z (word z) (range z h) ∙ ap (to_z w32) (word_of_z z) ∙ to_z-of_z {w = w32} (record { sfits = h }))
  where
    range : (z : ℤ) → mag z < 2147483648 → word z < 4294967296
    range (pos n) h = omega arith
    range (negsuc n) h = omega arith

-- and bits from their integer
pub word_integer : (n : ℕ) → n < 4294967296 → word (integer n) ≡ n
word_integer n h = ap word (integer_to_z n h) ∙ word_of_z (to_z w32 n) ∙ of_z-to_z {w = w32} (record { fits = h })
