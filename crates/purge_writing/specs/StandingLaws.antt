-- Pieces that are parts of others; what stands in a list already may be pasted there, and stands still when others are pasted before and
-- behind it.
use Rattle.std.specs.Prelude.{◌≡◌, List, ◌++◌, ℕ, ◌+◌, ◌≤◌, length, take, drop}
use Rattle.std.proofs.Common.{sym, ◌∙◌, ap, ap₂, append_assoc, arith, take-append-drop, take-take, length-take-le, drop-drop}
use Rattle.std.proofs.Math.Seq.{paste, take-length}
use Rattle.std.proofs.lemmas.List.Edits.{drop-paste}
use Rattle.buffer_writes.specs.PasteLaws.{part_before}
use Rattle.image_header.specs.Pieces.{pasted}
use Rattle.image_header.specs.PieceLaws.{pasted_pasted}

-- ---- the first bytes of a list, pasted: alone, and behind another piece
pub part_pasted : (d : List ℕ) (at : ℕ) (s : List ℕ) (n : ℕ) → n ≤ length s → paste d at s n ≡ pasted d at (take n s)
part_pasted d at s n h =
    ap (λ (l : List ℕ). take at d ++ l ++ drop (at + n) d) (sym (take-take n n s (omega arith))) ∙ ap (paste d at (take n s)) (sym (length-take-le n s h))

pub behind_pasted : (d : List ℕ) (at : ℕ) (x s : List ℕ) (n k : ℕ) → at + n ≤ length d → length x ≡ n → k ≤ length s
    → paste (paste d at x n) (at + n) s k ≡ pasted d at (x ++ take k s)
behind_pasted d at x s n k room size h =
    part_pasted (paste d at x n) (at + n) s k h
    ∙ ap₂ (λ (b : List ℕ) (m : ℕ). pasted b m (take k s)) (ap (paste d at x) (sym size)) (ap (λ (m : ℕ). at + m) (sym size))
    ∙ pasted_pasted d at x (take k s) (omega (arith, size))

-- ---- a piece stands at a place
abbrev pub Stands : List ℕ → ℕ → List ℕ → Type 0
Stands d at x = take (length x) (drop at d) ≡ x

pub pasted_standing : (d : List ℕ) (at : ℕ) (x : List ℕ) → Stands d at x → d ≡ pasted d at x
pasted_standing d at x e =
    let n : ℕ = length x in
    sym (take-append-drop at d)
    ∙ ap (λ (l : List ℕ). take at d ++ l) (sym (take-append-drop n (drop at d)) ∙ ap₂ ◌++◌ (e ∙ sym (take-length x)) (drop-drop n at d))
    ∙ sym (append_assoc (take at d) (take n x) (drop (at + n) d))

pub stands_before : (d : List ℕ) (at : ℕ) (x y : List ℕ) (to : ℕ) → to ≤ length d → at + length x ≤ to → Stands d at x → Stands (pasted d to y) at x
stands_before d at x y to h k e = part_before d to y (length y) at (length x) h k ∙ e

-- right behind a front
pub stands_behind : (d : List ℕ) (at : ℕ) (x y : List ℕ) → length y ≡ at → at ≤ length d → Stands d at x → Stands (pasted d 0 y) at x
stands_behind d at x y s h e =
    ap (λ (n : ℕ). take (length x) (drop n (pasted d 0 y))) {x = at} {y = 0 + length y} (omega (arith, s))
    ∙ ap (take (length x)) (drop-paste d 0 y (length y) (omega arith) (omega arith))
    ∙ ap (λ (n : ℕ). take (length x) (drop n d)) {x = 0 + length y} {y = at} (omega (arith, s)) ∙ e
