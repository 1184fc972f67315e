-- Keys made one after the other, and what they say of the executable deltas.
use Rattle.std.specs.Prelude.{◌≡◌, not, List, [], ℕ, ◌+◌, ◌*◌, ◌≤◌, ◌<◌, length, get_or, take, T, eqb}
use Rattle.std.proofs.Common.{sym, ◌∙◌, ap, ap₂, subst, ⊎_elim, add-one, arith, take-suc, take_all, eqb→eq}
use mathlib.Core.List.Memᴰ
use Rattle.std.proofs.Math.Seq.{paste}
use Rattle.std.proofs.lemmas.List.Edits.{length-paste}
use Rattle.model.specs.Lists.{◌∈◌}
use Rattle.model.specs.Layout.{capacity}
use Rattle.model.specs.Message.{Message}
use Rattle.model.specs.Order.{State, RightSet, stated_priority, key_with, less}
use Rattle.laws_order.specs.TestLaws.{decide, not_eqb, eq→eqb}
use Rattle.message_header.specs.Header.{header_of}
use Rattle.log_key.specs.Key.{key_size, header_key, key_in}
use Rattle.log_key.specs.KeyLaws.{put_here, put_other, key_says}
use Rattle.set_needs.specs.Rows.{RowsRight}
use Rattle.set_closure.specs.Closing.{Closed}
use Rattle.set_closure.specs.ClosingLaws.{closed_block, closed_placed}
use Rattle.log_prepared.specs.Keys.{Keyed, KeysMade, KeysRight}

pub keys_none : (l : List Message) (blocks indices keys : List ℕ) → Keyed keys → KeysMade l blocks (take 0 indices) keys
keys_none l blocks indices keys size = record { size = size; made = λ i k. absurd (Memᴰ.not-nil k) }

pub keys_more : (l : List Message) (blocks indices keys : List ℕ) (n : ℕ) (key : List ℕ) → n < length indices → get_or indices n 0 < capacity → KeysMade l blocks (take n indices) keys
    → key ≡ header_key (get_or blocks (get_or indices n 0) 0) (stated_priority (get_or l (get_or indices n 0) [])) (header_of (get_or l (get_or indices n 0) [])) → KeysMade l blocks (take (n + 1) indices) (paste keys (key_size * get_or indices n 0) key key_size)
keys_more l blocks indices keys n key inside small old new = record {
  size = length-paste keys (key_size * at) key key_size (omega (arith, old.size)) (omega (arith, long)) ∙ old.size;
  made = λ i k. ⊎_elim (λ q. ⊎_elim (same i) (other i q) (decide (eqb i at))) (λ q. same i (eq→eqb (Memᴰ.eq_of_singleton q)))
      (Memᴰ.append_cases (take n indices) (subst (λ (x : List ℕ). i ∈ x) (ap (λ (x : ℕ). take x indices) (add-one n) ∙ take-suc indices n 0 inside) k));
}
  where
    at : ℕ
    at = get_or indices n 0

    long : length key ≡ key_size
    long = ap length new

    same : (i : ℕ) → T (eqb i (get_or indices n 0)) → key_in (paste keys (key_size * get_or indices n 0) key key_size) i ≡ header_key (get_or blocks i 0) (stated_priority (get_or l i [])) (header_of (get_or l i []))
    same i t =
        subst (λ (k : ℕ). key_in (paste keys (key_size * get_or indices n 0) key key_size) k ≡ header_key (get_or blocks k 0) (stated_priority (get_or l k [])) (header_of (get_or l k []))) (sym (eqb→eq i (get_or indices n 0) t))
        (put_here keys (get_or indices n 0) key (omega (arith, old.size)) long ∙ new)

    other : (i : ℕ) → i ∈ take n indices → T (not (eqb i (get_or indices n 0))) → key_in (paste keys (key_size * get_or indices n 0) key key_size) i ≡ header_key (get_or blocks i 0) (stated_priority (get_or l i [])) (header_of (get_or l i []))
    other i q t = put_other keys (get_or indices n 0) i key (omega (arith, old.size)) long (not_eqb i (get_or indices n 0) t) ∙ old.made i q

pub keys_all : (l : List Message) (blocks indices keys : List ℕ) (n : ℕ) → length indices ≤ n → KeysMade l blocks (take n indices) keys → KeysMade l blocks indices keys
keys_all l blocks indices keys n h m = subst (λ (x : List ℕ). KeysMade l blocks x keys) (take_all n indices h) m

-- with the order and the blocks of a closure they say of executable deltas what the definitions' keys say
pub keys_closed : (S : State) → RightSet S → (rows counts : List ℕ) → RowsRight S rows counts → (blocks order : List ℕ) (count : ℕ) → Closed S rows counts blocks order count
    → (keys : List ℕ) → KeysMade S.deltas blocks (take count order) keys → KeysRight S keys
keys_closed S right rows counts rr blocks order count c keys made = record {
  size = made.size;
  compared = λ i j p q x y.
      ap₂ less (made.made i (closed_placed S right rows counts rr blocks order count c i p x)) (made.made j (closed_placed S right rows counts rr blocks order count c j q y))
      ∙ key_says (get_or blocks i 0) (get_or blocks j 0) (stated_priority (get_or S.deltas i [])) (stated_priority (get_or S.deltas j [])) (get_or S.deltas i []) (get_or S.deltas j [])
      ∙ ap₂ (λ (a b : ℕ). less (key_with a (stated_priority (get_or S.deltas i [])) (get_or S.deltas i [])) (key_with b (stated_priority (get_or S.deltas j [])) (get_or S.deltas j []))) (closed_block S right rows counts rr blocks order count c i p x) (closed_block S right rows counts rr blocks order count c j q y);
}
