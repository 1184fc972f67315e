-- Pieces pasted one behind the other are one piece; a front pasted last stands before what is there.
use Rattle.std.specs.Prelude.{◌≡◌, refl, List, [], ◌∷◌, ◌++◌, ℕ, ◌+◌, ◌≤◌, length, take, drop}
use Rattle.std.proofs.Common.{sym, ◌∙◌, ap, ap₂, append_assoc, arith, length-append, length-take-le, drop_at}
use Rattle.std.proofs.Math.Seq.{paste, paste-zero, take-length}
use Rattle.std.proofs.lemmas.List.Edits.{length-paste}
use Rattle.model.specs.Bytes.{bytes, join}
use Rattle.model.specs.Layout.{log_count_at, held_count_at, purged_block_at, purged_group_at, zeros_at, setpoints_start}
use Rattle.buffer_writes.specs.PasteLaws.{paste_paste}
use Rattle.image_header.specs.Pieces.{pasted, counts_bytes, purged_bytes, Copied}

-- ---- a piece, and one behind it
pub pasted_pasted : (d : List ℕ) (at : ℕ) (x y : List ℕ) → at + length x ≤ length d → pasted (pasted d at x) (at + length x) y ≡ pasted d at (x ++ y)
pasted_pasted d at x y h = paste_paste d at x y (length x) (length y) h refl ∙ ap (paste d at (x ++ y)) (sym (length-append x y))

pub length_pasted : (d : List ℕ) (at : ℕ) (x : List ℕ) → at + length x ≤ length d → length (pasted d at x) ≡ length d
length_pasted d at x h = length-paste d at x (length x) h (omega arith)

pub copied_behind : {d e f : List ℕ} {at behind end : ℕ} {x y : List ℕ} → at + length x ≤ length d → Copied d at x e behind → Copied e behind y f end → Copied d at (x ++ y) f end
copied_behind {d} {e} {f} {at} {behind} {end} {x} {y} h p q = record {
  bytes = q.bytes ∙ ap₂ (λ (b : List ℕ) (n : ℕ). pasted b n y) p.bytes p.end ∙ pasted_pasted d at x y h;
  end = omega (arith, length-append x y, p.end, q.end);
}

-- ---- pieces one behind the other, from a place on
abbrev pub in_order : List ℕ → ℕ → List (List ℕ) → List ℕ
in_order d at [] = d
in_order d at (b ∷ l) = in_order (pasted d at b) (at + length b) l

pub order_pasted : (d : List ℕ) (at : ℕ) (l : List (List ℕ)) → at + length (join l) ≤ length d → in_order d at l ≡ pasted d at (join l)
order_pasted d at [] h = paste-zero d at []
order_pasted d at (b ∷ l) h =
    let size : length (b ++ join l) ≡ length b + length (join l) = length-append b (join l) in
    let same : length (pasted d at b) ≡ length d = length_pasted d at b (omega arith) in
    order_pasted (pasted d at b) (at + length b) l (omega arith) ∙ pasted_pasted d at b (join l) (omega arith)

-- the numbers of the header's parts
pub counts_pasted : (d : List ℕ) (log held : ℕ) → setpoints_start ≤ length d
    → paste (paste d log_count_at (bytes 2 log) 2) held_count_at (bytes 2 held) 2 ≡ pasted d log_count_at (counts_bytes log held)
counts_pasted d log held h = order_pasted d log_count_at (bytes 2 log ∷ bytes 2 held ∷ []) (omega arith)

-- two numbers of two bytes behind another
pub three_pasted : (d : List ℕ) (at x y z : ℕ) → at + 6 ≤ length d
    → paste (paste (paste d at (bytes 2 x) 2) (at + 2) (bytes 2 y) 2) (at + 4) (bytes 2 z) 2 ≡ pasted d at (join (bytes 2 x ∷ bytes 2 y ∷ bytes 2 z ∷ []))
three_pasted d at x y z h =
    ap (λ (k : ℕ). paste (paste (paste d at (bytes 2 x) 2) (at + 2) (bytes 2 y) 2) k (bytes 2 z) 2) {x = at + 4} {y = at + 2 + 2} (omega arith)
    ∙ order_pasted d at (bytes 2 x ∷ bytes 2 y ∷ bytes 2 z ∷ []) h

pub purged_pasted : (d : List ℕ) (block group : ℕ) → setpoints_start ≤ length d
    → paste (paste (paste d purged_block_at (bytes 4 block) 4) purged_group_at (bytes 4 group) 4) zeros_at (bytes 8 0) 8 ≡ pasted d purged_block_at (purged_bytes block group)
purged_pasted d block group h = order_pasted d purged_block_at (bytes 4 block ∷ bytes 4 group ∷ bytes 8 0 ∷ []) h

-- ---- a front, pasted last, and what was pasted behind it
pub front_pasted : (d x y : List ℕ) (at : ℕ) → length x ≡ at → at + length y ≤ length d → pasted (pasted d at y) 0 x ≡ x ++ y ++ drop (at + length y) d
front_pasted d x y at e h =
    ap₂ (λ (u : List ℕ) (n : ℕ). u ++ drop n (pasted d at y)) (take-length x) here ∙ ap (λ (u : List ℕ). x ++ u) back ∙ sym (append_assoc x y rest)
  where
    here : 0 + length x ≡ at
    here = omega (arith, e)

    rest : List ℕ
    rest = drop (at + length y) d

    back : drop at (pasted d at y) ≡ y ++ rest
    back =
        ap (drop at) (append_assoc (take at d) (take (length y) y) rest)
        ∙ drop_at (take at d) (take (length y) y ++ rest) at (length-take-le at d (omega arith))
        ∙ ap (λ (z : List ℕ). z ++ rest) (take-length y)
