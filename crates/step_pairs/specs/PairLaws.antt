-- Pairs written one by one.
use Rattle.std.specs.Prelude.{◌≡◌, List, [], ◌∷◌, ◌++◌, map, ℕ, ◌+◌, ◌*◌, ◌≤◌, ◌<◌, length, take, get_or}
use Rattle.std.proofs.Common.{sym, ap, ap₂, ◌∙◌, append-nil, arith, length-append, length-take-le}
use Rattle.std.proofs.lemmas.List.{map-append}
use Rattle.std.proofs.Math.Seq.{paste, paste-zero}
use Rattle.model.specs.Bytes.{join}
use Rattle.model.specs.Layout.{pair_size}
use Rattle.model.specs.Steps.{Pair, pair_bytes, pairs_bytes}
use Rattle.laws_order.specs.ListLaws.{take_next}
use Rattle.laws_wire.specs.BytesLaws.{join_append}
use Rattle.laws_wire.specs.StepBytesLaws.{length_pairs}
use Rattle.buffer_writes.specs.PasteLaws.{paste_paste}
use Rattle.step_pairs.specs.Pairs.{with_pairs}

-- none is written, and one more behind those that are
pub pairs_none : (b : List ℕ) (at : ℕ) → b ≡ with_pairs b at []
pairs_none b at = paste-zero b at []

pairs_more : (b : List ℕ) (at : ℕ) (l : List Pair) (p : Pair) → at + pair_size * length l ≤ length b
    → paste (with_pairs b at l) (at + pair_size * length l) (pair_bytes p) pair_size ≡ with_pairs b at (l ++ p ∷ [])
pairs_more b at l p h =
    paste_paste b at (pairs_bytes l) (pair_bytes p) (pair_size * length l) pair_size h (length_pairs l)
    ∙ ap₂ (paste b at) {u = pair_size * length l + pair_size} {v = pair_size * length (l ++ p ∷ [])} joined (omega (arith, length-append l (p ∷ [])))
  where
    joined : pairs_bytes l ++ pair_bytes p ≡ pairs_bytes (l ++ p ∷ [])
    joined =
        ap (λ (x : List ℕ). pairs_bytes l ++ x) (sym (append-nil (pair_bytes p))) ∙ join_append (map pair_bytes l) (pair_bytes p ∷ [])
        ∙ ap join (sym (map-append pair_bytes l (p ∷ [])))

-- the first k of a list, and then the one at k
pub pairs_next : (b : List ℕ) (at : ℕ) (l : List Pair) (k : ℕ) (d : Pair) → k < length l → at + pair_size * k ≤ length b
    → paste (with_pairs b at (take k l)) (at + pair_size * k) (pair_bytes (get_or l k d)) pair_size ≡ with_pairs b at (take (k + 1) l)
pairs_next b at l k d h room =
    let size : length (take k l) ≡ k = length-take-le k l (omega arith) in
    ap (λ (n : ℕ). paste (with_pairs b at (take k l)) (at + pair_size * n) (pair_bytes (get_or l k d)) pair_size) (sym size)
    ∙ pairs_more b at (take k l) (get_or l k d) (omega arith) ∙ ap (with_pairs b at) (sym (take_next l k d h))
