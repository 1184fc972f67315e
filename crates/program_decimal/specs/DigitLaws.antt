-- The digits of a number, found from the last to the first.
use Rattle.std.specs.Prelude.{◌≡◌, Bool, true, false, cond, List, [], ◌∷◌, ◌++◌, ℕ, zero, suc, ◌+◌, ◌-◌, ◌/◌, ◌%◌, ◌≤◌, ◌<◌, length, drop, set, ltb}
use Rattle.std.proofs.Common.{sym, ◌∙◌, ap, ap₂, append_assoc, append-nil, arith, length-append, drop_of_length-le, drop-cons, lt-length-set, get_or-set_same, drop-set-lt, lt-ltb, le-ltb}
use Rattle.model.specs.Program.{digits}
use Rattle.program_decimal.specs.Puts.{digits_room, numeral}

-- at most as many as are asked for
digits_few : (n x : ℕ) → length (digits n x) ≤ n
digits_few zero x = omega arith
digits_few (suc n) x = go (ltb x 10) (digits_few n (x / 10))
  where
    go : (b : Bool) → length (digits n (x / 10)) ≤ n → length (cond b [] (digits n (x / 10)) ++ (48 + x % 10) ∷ []) ≤ suc n
    go true h = omega arith
    go false h = omega (arith, length-append (digits n (x / 10)) ((48 + x % 10) ∷ []))

pub numeral_few : (x : ℕ) → length (numeral x) ≤ digits_room
unfolding numeral
numeral_few x = digits_few digits_room x

-- the first digit of all
digits_first : (n x : ℕ) → x < 10 → digits (suc n) x ≡ (48 + x % 10) ∷ []
digits_first n x h = ap (λ (b : Bool). cond b [] (digits n (x / 10)) ++ (48 + x % 10) ∷ []) (lt-ltb x 10 h)

-- a digit with more before it
digits_next : (n x : ℕ) → 10 ≤ x → digits (suc n) x ≡ digits n (x / 10) ++ (48 + x % 10) ∷ []
digits_next n x h = ap (λ (b : Bool). cond b [] (digits n (x / 10)) ++ (48 + x % 10) ∷ []) (le-ltb x 10 h)

-- ---- a text that the digits fill from its end: `first` digits are still to come, of `rest`
drop_set : (text : List ℕ) (k d : ℕ) → k < length text → drop k (set text k d) ≡ d ∷ drop (suc k) text
drop_set text k d h =
    drop-cons (set text k d) k 0 (lt-length-set text k d h)
    ∙ ap₂ ◌∷◌ (get_or-set_same text k d 0 h) (drop-set-lt (suc k) text k d (omega arith))

pub spelled_none : (text : List ℕ) (x : ℕ) → length text ≡ digits_room → digits digits_room x ++ drop digits_room text ≡ numeral x
unfolding numeral
spelled_none text x h = ap (λ (d : List ℕ). digits digits_room x ++ d) (drop_of_length-le text {i = digits_room} (omega arith)) ∙ append-nil (digits digits_room x)

pub spelled_first : (text whole : List ℕ) (first rest : ℕ) → 0 < first → first ≤ length text → rest < 10
    → digits first rest ++ drop first text ≡ whole → drop (first - 1) (set text (first - 1) (48 + rest % 10)) ≡ whole
spelled_first text whole zero rest p h l e = let z : ⊥ = omega arith in absurd z
spelled_first text whole (suc k) rest p h l e =
    ap (λ (i : ℕ). drop i (set text i (48 + rest % 10))) {x = suc k - 1} {y = k} (omega arith)
    ∙ drop_set text k (48 + rest % 10) (omega arith) ∙ ap (λ (d : List ℕ). d ++ drop (suc k) text) (sym (digits_first k rest l)) ∙ e

pub spelled_next : (text whole : List ℕ) (first rest : ℕ) → 0 < first → first ≤ length text → 10 ≤ rest
    → digits first rest ++ drop first text ≡ whole → digits (first - 1) (rest / 10) ++ drop (first - 1) (set text (first - 1) (48 + rest % 10)) ≡ whole
spelled_next text whole zero rest p h l e = let z : ⊥ = omega arith in absurd z
spelled_next text whole (suc k) rest p h l e =
    ap (λ (i : ℕ). digits i (rest / 10) ++ drop i (set text i (48 + rest % 10))) {x = suc k - 1} {y = k} (omega arith)
    ∙ ap (λ (d : List ℕ). digits k (rest / 10) ++ d) (drop_set text k (48 + rest % 10) (omega arith))
    ∙ sym (append_assoc (digits k (rest / 10)) ((48 + rest % 10) ∷ []) (drop (suc k) text))
    ∙ ap (λ (d : List ℕ). d ++ drop (suc k) text) (sym (digits_next k rest l)) ∙ e

pub spelled_all : (text whole : List ℕ) (first rest : ℕ) → first ≤ 0 → digits first rest ++ drop first text ≡ whole → drop first text ≡ whole
spelled_all text whole zero rest h e = e
spelled_all text whole (suc k) rest h e = let z : ⊥ = omega arith in absurd z
