-- Values as bytes, four each; and that they can be written and read one after the other.
use Rattle.std.specs.Prelude.{◌≡◌, refl, List, [], ◌∷◌, ◌++◌, map, ℕ, ◌+◌, ◌*◌, ◌≤◌, ◌<◌, ℤ, pos, length, take, get_or, set}
use Rattle.std.proofs.Common.{sym, ap, ap₂, ◌∙◌, append_assoc, append-nil, arith, add-one, length-append, take-suc, take-suc-set, length-take-le}
use Rattle.std.proofs.Math.Seq.{paste}
use Rattle.model.specs.Bytes.{bytes, join, word}
use Rattle.model.specs.Layout.{value_size}
use Rattle.laws_wire.specs.BytesLaws.{length_bytes}
use Rattle.buffer_writes.specs.PasteLaws.{paste_paste}

abbrev pub words_of : List ℤ → List ℕ
words_of values = join (map (λ v. bytes value_size (word v)) values)

pub words_length : (values : List ℤ) → length (words_of values) ≡ value_size * length values
words_length [] = refl
words_length (v ∷ values) =
    length-append (bytes value_size (word v)) (words_of values) ∙ omega (arith, length_bytes value_size (word v), words_length values)

-- one value more
words_snoc : (values : List ℤ) (v : ℤ) → words_of values ++ bytes value_size (word v) ≡ words_of (values ++ (v ∷ []))
words_snoc [] v = sym (append-nil (bytes value_size (word v)))
words_snoc (x ∷ values) v =
    append_assoc (bytes value_size (word x)) (words_of values) (bytes value_size (word v)) ∙ ap (λ (b : List ℕ). bytes value_size (word x) ++ b) (words_snoc values v)

words_more : (values : List ℤ) (i : ℕ) → i < length values → words_of (take i values) ++ bytes value_size (word (get_or values i (pos 0))) ≡ words_of (take (i + 1) values)
words_more values i h =
    words_snoc (take i values) (get_or values i (pos 0)) ∙ ap words_of (sym (take-suc values i (pos 0) h)) ∙ ap (λ (n : ℕ). words_of (take n values)) (sym (add-one i))

-- the first i values are written, and then the value at i: so are the first i + 1
pub words_next : (b : List ℕ) (at : ℕ) (values : List ℤ) (i : ℕ) → i < length values → at + value_size * i ≤ length b
    → paste (paste b at (words_of (take i values)) (value_size * i)) (at + value_size * i) (bytes value_size (word (get_or values i (pos 0)))) value_size
    ≡ paste b at (words_of (take (i + 1) values)) (value_size * (i + 1))
words_next b at values i h k =
    let e : value_size * i + value_size ≡ value_size * (i + 1) = omega arith in
    paste_paste b at (words_of (take i values)) (bytes value_size (word (get_or values i (pos 0)))) (value_size * i) value_size k
    (words_length (take i values) ∙ ap (λ (n : ℕ). value_size * n) (length-take-le i values (omega arith)))
    ∙ ap₂ (paste b at) (words_more values i h) e

-- of the values that are to be read the first i stand there, and then the value at i: so do the first i + 1
pub values_next : (found values : List ℤ) (i : ℕ) (v : ℤ) → i < length values → i < length found → take i values ≡ take i found → v ≡ get_or found i (pos 0)
    → take (i + 1) (set values i v) ≡ take (i + 1) found
values_next found values i v h k e q =
    ap (λ (n : ℕ). take n (set values i v)) (add-one i) ∙ take-suc-set values i v h ∙ ap₂ (λ (l : List ℤ) (x : ℤ). l ++ (x ∷ [])) e q
    ∙ sym (take-suc found i (pos 0) k) ∙ ap (λ (n : ℕ). take n found) (sym (add-one i))
