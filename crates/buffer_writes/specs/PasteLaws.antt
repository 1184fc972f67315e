-- Copies into a list: two neighbouring ones are one; and what parts of it are then.
use Rattle.std.specs.Prelude.{◌≡◌, List, ◌++◌, ℕ, ◌+◌, ◌/◌, ◌^◌, ◌≤◌, length, take, drop}
use Rattle.std.proofs.Common.{sym, ◌∙◌, ap, ap₂, append_assoc, arith, length-drop, take-append-drop, drop-drop, take-add, take_all, take-take, length-take-le, take_at, drop_at}
use Rattle.std.proofs.Math.Seq.{paste, take-append-add, take-length}
use Rattle.std.proofs.lemmas.List.Edits.{take-paste, drop-paste}
use Rattle.std.proofs.lemmas.List.{take-append-le, drop-append-le}
use Rattle.model.specs.Bytes.{bytes}
use Rattle.model.specs.Calls.{written}
use Rattle.laws_wire.specs.BytesLaws.{length_bytes}
use Rattle.buffer_reads.specs.FieldLaws.{bytes_split}

-- the first n + k of two lists, of which the first has n
take_both : (x y : List ℕ) (n k : ℕ) → length x ≡ n → take (n + k) (x ++ y) ≡ x ++ take k y
take_both x y n k e = ap (λ (z : ℕ). take (z + k) (x ++ y)) (sym e) ∙ take-append-add x y k

-- two side by side, the second one written behind the first
pub paste_paste : (d : List ℕ) (at : ℕ) (x y : List ℕ) (n k : ℕ) → at + n ≤ length d → length x ≡ n
    → paste (paste d at x n) (at + n) y k ≡ paste d at (x ++ y) (n + k)
paste_paste d at x y n k h e =
    ap₂ (λ (u v : List ℕ). u ++ take k y ++ v) head rest
    ∙ ap (λ (u : List ℕ). u ++ drop (at + (n + k)) d) (append_assoc (take at d) x (take k y) ∙ ap (λ (u : List ℕ). take at d ++ u) (sym (take_both x y n k e)))
  where
    head : take (at + n) (paste d at x n) ≡ take at d ++ x
    head = take-paste d at x n (omega arith) (omega arith) ∙ ap (λ (u : List ℕ). take at d ++ u) (take_all n x (omega arith))

    rest : drop (at + n + k) (paste d at x n) ≡ drop (at + (n + k)) d
    rest =
        sym (drop-drop k (at + n) (paste d at x n)) ∙ ap (drop k) (drop-paste d at x n (omega arith) (omega arith)) ∙ drop-drop k (at + n) d
        ∙ ap (λ (z : ℕ). drop z d) {x = at + n + k} {y = at + (n + k)} (omega arith)

-- and the first one written before the second
pub paste_behind : (d : List ℕ) (at : ℕ) (x y : List ℕ) (n k : ℕ) → at + n ≤ length d → length x ≡ n
    → paste (paste d (at + n) y k) at x n ≡ paste d at (x ++ y) (n + k)
paste_behind d at x y n k h e =
    ap₂ (λ (u v : List ℕ). u ++ take n x ++ v) head rest ∙ sym (append_assoc (take at d ++ take n x) (take k y) (drop (at + n + k) d))
    ∙ ap₂ (λ (u : List ℕ) (z : ℕ). u ++ drop z d) {u = at + n + k} {v = at + (n + k)} middle (omega arith)
  where
    behind : List ℕ
    behind = take k y ++ drop (at + n + k) d

    cut : paste d (at + n) y k ≡ take (at + n) d ++ behind
    cut = append_assoc (take (at + n) d) (take k y) (drop (at + n + k) d)

    head : take at (paste d (at + n) y k) ≡ take at d
    head =
        ap (take at) cut ∙ take-append-le at (take (at + n) d) behind (omega (arith, length-take-le (at + n) d h)) ∙ take-take at (at + n) d (omega arith)

    rest : drop (at + n) (paste d (at + n) y k) ≡ behind
    rest = ap (drop (at + n)) cut ∙ drop_at (take (at + n) d) behind (at + n) (length-take-le (at + n) d h)

    middle : take at d ++ take n x ++ take k y ≡ take at d ++ take (n + k) (x ++ y)
    middle =
        append_assoc (take at d) (take n x) (take k y)
        ∙ ap (λ (u : List ℕ). take at d ++ u) (ap (λ (u : List ℕ). u ++ take k y) (take_all n x (omega arith)) ∙ sym (take_both x y n k e))

-- what is copied from the start on, and then its next part
paste_taken : (d : List ℕ) (at : ℕ) (s : List ℕ) (n : ℕ) → paste d at (take n s) n ≡ paste d at s n
paste_taken d at s n = ap (λ (l : List ℕ). take at d ++ l ++ drop (at + n) d) (take-take n n s (omega arith))

pub paste_more : (d : List ℕ) (at : ℕ) (s : List ℕ) (n k : ℕ) → at + n ≤ length d → n ≤ length s
    → paste (paste d at s n) (at + n) (take k (drop n s)) k ≡ paste d at s (n + k)
paste_more d at s n k h g =
    ap (λ (l : List ℕ). paste l (at + n) (take k (drop n s)) k) (sym (paste_taken d at s n))
    ∙ paste_paste d at (take n s) (take k (drop n s)) n k h (length-take-le n s g)
    ∙ ap (λ (l : List ℕ). paste d at l (n + k)) (sym (take-add n k s)) ∙ paste_taken d at s (n + k)

-- all of it at the front
pub front_written : (x d : List ℕ) → paste d 0 x (length x) ≡ written x d
front_written x d = ap₂ (λ (y : List ℕ) (n : ℕ). y ++ drop n d) {u = 0 + length x} {v = length x} (take-length x) (omega arith)

-- a number written in two parts, the high one first
pub paste_halves : (d : List ℕ) (at n k v : ℕ) → at + n ≤ length d
    → paste (paste d at (bytes n (v / 256 ^ k)) n) (at + n) (bytes k v) k ≡ paste d at (bytes (n + k) v) (n + k)
paste_halves d at n k v h =
    paste_paste d at (bytes n (v / 256 ^ k)) (bytes k v) n k h (length_bytes n (v / 256 ^ k))
    ∙ ap (λ (b : List ℕ). paste d at b (n + k)) (sym (bytes_split n k v))

-- ---- parts of a list into which another is pasted
part_of_first : (xs ys : List ℕ) (j n : ℕ) → j + n ≤ length xs → take n (drop j (xs ++ ys)) ≡ take n (drop j xs)
part_of_first xs ys j n h = ap (take n) (drop-append-le j xs ys (omega arith)) ∙ take-append-le n (drop j xs) ys (omega (arith, length-drop j xs))

pub part_before : (d : List ℕ) (at : ℕ) (s : List ℕ) (m j n : ℕ) → at ≤ length d → j + n ≤ at → take n (drop j (paste d at s m)) ≡ take n (drop j d)
part_before d at s m j n h k =
    let inside : j + n ≤ length (take at d) = omega (arith, length-take-le at d h) in
    ap (λ (l : List ℕ). take n (drop j l)) (append_assoc (take at d) (take m s) (drop (at + m) d))
    ∙ part_of_first (take at d) (take m s ++ drop (at + m) d) j n inside ∙ sym (part_of_first (take at d) (drop at d) j n inside)
    ∙ ap (λ (l : List ℕ). take n (drop j l)) (take-append-drop at d)

pub part_pasted : (d : List ℕ) (at : ℕ) (s : List ℕ) (n : ℕ) → at ≤ length d → n ≤ length s → take n (drop at (paste d at s n)) ≡ take n s
part_pasted d at s n h g =
    let behind : List ℕ = drop (at + n) d in
    ap (λ (l : List ℕ). take n (drop at l)) (append_assoc (take at d) (take n s) behind)
    ∙ ap (take n) (drop_at (take at d) (take n s ++ behind) at (length-take-le at d h)) ∙ take_at (take n s) behind n (length-take-le n s g)

pub part_here : (d : List ℕ) (at : ℕ) (s : List ℕ) (n : ℕ) → at ≤ length d → n ≡ length s → take n (drop at (paste d at s n)) ≡ s
part_here d at s n h e = part_pasted d at s n h (omega arith) ∙ take_all n s (omega arith)
