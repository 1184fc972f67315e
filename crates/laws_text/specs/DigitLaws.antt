-- Digits and their characters, bytes and theirs: each way is the other's inverse.
use Rattle.std.specs.Prelude.{◌≡◌, refl, Bool, true, false, cond, not, ◌&&◌, List, [], ◌∷◌, ℕ, zero, suc, ◌+◌, ◌*◌, ◌-◌, ◌/◌, ◌%◌, ◌≤◌, ◌<◌, T, eqb, ltb, leb, length, get_or}
use Rattle.std.proofs.Common.{sym, ◌∙◌, ap, ap₂, subst, ⊎_elim, arith, ltb→lt, lt→ltb, leb→le, nltb→le, lt-ltb, le-ltb, le-leb, ne_eqb}
use Rattle.std.proofs.lemmas.Bool.{lt-leb}
use Rattle.model.specs.Lists.{every}
use Rattle.model.specs.Bytes.{is_bytes}
use Rattle.model.specs.Text.{no_digit, digit_of, is_digit, character_of, characters_of, bytes_in}
use Rattle.laws_order.specs.TestLaws.{and_l, and_r, and_i, decide, true_T}

-- ---- the character of a digit has that digit
digit_back : (d : ℕ) → d < 16 → digit_of (character_of d) ≡ d
unfolding digit_of character_of
digit_back d h = ⊎_elim decimal letter (decide (ltb d 10))
  where
    decimal : T (ltb d 10) → digit_of (character_of d) ≡ d
    decimal t =
        let k : d < 10 = ltb→lt d 10 t in
        simp (lt-ltb d 10 k, le-leb 48 (48 + d) (omega arith), le-leb (48 + d) 57 (omega arith)) (omega arith)

    letter : T (not (ltb d 10)) → digit_of (character_of d) ≡ d
    letter t =
        let k : 10 ≤ d = nltb→le d 10 t in
        simp (le-ltb d 10 k, le-leb 48 (65 + (d - 10)) (omega arith), lt-leb (65 + (d - 10)) 57 (omega arith), le-leb 65 (65 + (d - 10)) (omega arith), le-leb (65 + (d - 10)) 70 (omega arith))
        (omega arith)

-- ---- and the digit of a character that has one is below 16, and has that character
data DigitCase (c : ℕ) : Type 0 where
  decimal : 48 ≤ c → c ≤ 57 → digit_of c ≡ c - 48 → DigitCase c
  letter : 65 ≤ c → c ≤ 70 → digit_of c ≡ 10 + (c - 65) → DigitCase c

digit_case : (c : ℕ) → T (is_digit c) → DigitCase c
unfolding digit_of
digit_case c t = go (leb 48 c && leb c 57) (leb 65 c && leb c 70) refl refl t
  where
    go : (a b : Bool) → (leb 48 c && leb c 57) ≡ a → (leb 65 c && leb c 70) ≡ b → T (not (eqb (cond a (c - 48) (cond b (10 + (c - 65)) no_digit)) no_digit)) → DigitCase c
    go true b e f t =
        let both : T (leb 48 c && leb c 57) = true_T (leb 48 c && leb c 57) e in
        decimal (leb→le 48 c (and_l (leb 48 c) (leb c 57) both)) (leb→le c 57 (and_r (leb 48 c) (leb c 57) both)) (ap (λ (x : Bool). cond x (c - 48) (cond (leb 65 c && leb c 70) (10 + (c - 65)) no_digit)) e)
    go false true e f t =
        let both : T (leb 65 c && leb c 70) = true_T (leb 65 c && leb c 70) f in
        letter (leb→le 65 c (and_l (leb 65 c) (leb c 70) both)) (leb→le c 70 (and_r (leb 65 c) (leb c 70) both)) (ap₂ (λ (x y : Bool). cond x (c - 48) (cond y (10 + (c - 65)) no_digit)) e f)
    go false false e f t = absurd t

pub digit_small : (c : ℕ) → T (is_digit c) → digit_of c < 16
digit_small c t = go (digit_case c t)
  where
    go : DigitCase c → digit_of c < 16
    go (decimal low high e) = omega arith
    go (letter low high e) = omega arith

character_back : (c : ℕ) → T (is_digit c) → character_of (digit_of c) ≡ c
unfolding character_of
character_back c t = go (digit_case c t)
  where
    go : DigitCase c → character_of (digit_of c) ≡ c
    go (decimal low high e) = let k : digit_of c < 10 = omega arith in simp (lt-ltb (digit_of c) 10 k) (omega arith)
    go (letter low high e) = let k : 10 ≤ digit_of c = omega arith in simp (le-ltb (digit_of c) 10 k) (omega arith)

-- a digit below 16 has a character that is a digit
character_digit : (d : ℕ) → d < 16 → T (is_digit (character_of d))
character_digit d h = subst (λ (x : ℕ). T (not (eqb x no_digit))) (sym (digit_back d h)) (subst (λ (x : Bool). T (not x)) (sym (ne_eqb d no_digit (λ e. omega arith))) tt)

-- ---- lists of digits
digits_head : (c : ℕ) (t : List ℕ) → T (every is_digit (c ∷ t)) → T (is_digit c)
digits_head c t h = and_l (is_digit c) (every is_digit t) h

digits_rest : (c : ℕ) (t : List ℕ) → T (every is_digit (c ∷ t)) → T (every is_digit t)
digits_rest c t h = and_r (is_digit c) (every is_digit t) h

digits_cons : (c : ℕ) (t : List ℕ) → T (is_digit c) → T (every is_digit t) → T (every is_digit (c ∷ t))
digits_cons c t h k = and_i (is_digit c) (every is_digit t) h k

-- ---- bytes
pub length_characters : (b : List ℕ) → length (characters_of b) ≡ 2 * length b
length_characters [] = refl
length_characters (x ∷ b) = let e = length_characters b in omega arith

pub length_bytes_in : (n : ℕ) (t : List ℕ) → length t ≡ 2 * n → length (bytes_in t) ≡ n
length_bytes_in zero [] h = refl
length_bytes_in zero (c ∷ t) h = let z : ⊥ = omega arith in absurd z
length_bytes_in (suc n) [] h = let z : ⊥ = omega arith in absurd z
length_bytes_in (suc n) (c ∷ []) h = let z : ⊥ = omega arith in absurd z
length_bytes_in (suc n) (c ∷ d ∷ t) h = ap suc (length_bytes_in n t (omega arith))

pub characters_digits : (b : List ℕ) → T (is_bytes b) → T (every is_digit (characters_of b))
characters_digits [] t = tt
characters_digits (x ∷ b) t =
    let k : x < 256 = ltb→lt x 256 (and_l (ltb x 256) (is_bytes b) t) in
    let low : T (every is_digit (character_of (x % 16) ∷ characters_of b)) = digits_cons (character_of (x % 16)) (characters_of b) (character_digit (x % 16) (omega arith)) (characters_digits b (and_r (ltb x 256) (is_bytes b) t)) in
    digits_cons (character_of (x / 16)) (character_of (x % 16) ∷ characters_of b) (character_digit (x / 16) (omega arith)) low

pub bytes_back : (b : List ℕ) → T (is_bytes b) → bytes_in (characters_of b) ≡ b
bytes_back [] t = refl
bytes_back (x ∷ b) t =
    let k : x < 256 = ltb→lt x 256 (and_l (ltb x 256) (is_bytes b) t) in
    ap₂ ◌∷◌ (ap₂ (λ (h l : ℕ). 16 * h + l) (digit_back (x / 16) (omega arith)) (digit_back (x % 16) (omega arith)) ∙ omega arith) (bytes_back b (and_r (ltb x 256) (is_bytes b) t))

pub bytes_in_bytes : (t : List ℕ) → T (every is_digit t) → T (is_bytes (bytes_in t))
bytes_in_bytes [] h = tt
bytes_in_bytes (c ∷ []) h = tt
bytes_in_bytes (c ∷ d ∷ t) h =
    let first : T (is_digit c) = digits_head c (d ∷ t) h in
    let rest : T (every is_digit (d ∷ t)) = digits_rest c (d ∷ t) h in
    let second : T (is_digit d) = digits_head d t rest in
    let x : digit_of c < 16 = digit_small c first in
    let y : digit_of d < 16 = digit_small d second in
    and_i (ltb (16 * digit_of c + digit_of d) 256) (is_bytes (bytes_in t)) (lt→ltb (16 * digit_of c + digit_of d) 256 (omega arith)) (bytes_in_bytes t (digits_rest d t rest))

pub characters_back : (n : ℕ) (t : List ℕ) → length t ≡ 2 * n → T (every is_digit t) → characters_of (bytes_in t) ≡ t
characters_back zero [] e h = refl
characters_back zero (c ∷ t) e h = let z : ⊥ = omega arith in absurd z
characters_back (suc n) [] e h = let z : ⊥ = omega arith in absurd z
characters_back (suc n) (c ∷ []) e h = let z : ⊥ = omega arith in absurd z
characters_back (suc n) (c ∷ d ∷ t) e h =
    let first : T (is_digit c) = digits_head c (d ∷ t) h in
    let rest : T (every is_digit (d ∷ t)) = digits_rest c (d ∷ t) h in
    let second : T (is_digit d) = digits_head d t rest in
    let x : digit_of c < 16 = digit_small c first in
    let y : digit_of d < 16 = digit_small d second in
    let high : (16 * digit_of c + digit_of d) / 16 ≡ digit_of c = omega arith in
    let low : (16 * digit_of c + digit_of d) % 16 ≡ digit_of d = omega arith in
    ap₂ ◌∷◌ (ap character_of high ∙ character_back c first)
    (ap₂ ◌∷◌ (ap character_of low ∙ character_back d second) (characters_back n t (omega arith) (digits_rest d t rest)))

-- ---- the byte of two characters, and the two characters of a byte
twice : (k : ℕ) → suc (suc (2 * k)) ≡ 2 * suc k
twice k = omega arith

pub byte_at : (n : ℕ) (t : List ℕ) (k : ℕ) → length t ≡ 2 * n → k < n → get_or (bytes_in t) k 0 ≡ 16 * digit_of (get_or t (2 * k) 0) + digit_of (get_or t (2 * k + 1) 0)
byte_at zero t k e h = let z : ⊥ = omega arith in absurd z
byte_at (suc n) [] k e h = let z : ⊥ = omega arith in absurd z
byte_at (suc n) (c ∷ []) k e h = let z : ⊥ = omega arith in absurd z
byte_at (suc n) (c ∷ d ∷ t) zero e h = refl
byte_at (suc n) (c ∷ d ∷ t) (suc k) e h =
    byte_at n t k (omega arith) (omega arith)
    ∙ ap₂ (λ (x y : ℕ). 16 * digit_of (get_or (c ∷ d ∷ t) x 0) + digit_of (get_or (c ∷ d ∷ t) y 0)) {u = suc (suc (2 * k + 1))} {v = 2 * suc k + 1} (twice k) (omega arith)

pub high_at : (b : List ℕ) (k : ℕ) → k < length b → get_or (characters_of b) (2 * k) 0 ≡ character_of (get_or b k 0 / 16)
high_at [] k h = let z : ⊥ = omega arith in absurd z
high_at (x ∷ b) zero h = refl
high_at (x ∷ b) (suc k) h = ap (λ (i : ℕ). get_or (characters_of (x ∷ b)) i 0) (sym (twice k)) ∙ high_at b k (omega arith)

pub low_at : (b : List ℕ) (k : ℕ) → k < length b → get_or (characters_of b) (2 * k + 1) 0 ≡ character_of (get_or b k 0 % 16)
low_at [] k h = let z : ⊥ = omega arith in absurd z
low_at (x ∷ b) zero h = refl
low_at (x ∷ b) (suc k) h =
    ap (λ (i : ℕ). get_or (characters_of (x ∷ b)) i 0) {x = 2 * suc k + 1} {y = suc (suc (2 * k + 1))} (omega arith) ∙ low_at b k (omega arith)
