-- The group behind a log, by the highest one and the last delta.
use Rattle.std.specs.Prelude.{◌≡◌, refl, Bool, cond, List, [], ◌∷◌, ℕ, suc, ◌-◌, ◌<◌, max, length, get_or, ltb}
use Rattle.std.proofs.Common.{sym, ◌∙◌, ap, arith}
use Rattle.model.specs.Message.{Message, sequence_of}
use Rattle.model.specs.Compose.{last_sequence, highest_group, group_after}
use Rattle.set_table.specs.Table.{deltas_at}

last_is : (l : List Message) (places : List ℕ) → 0 < length places → last_sequence (deltas_at l places) ≡ sequence_of (get_or l (get_or places (length places - 1) 0) [])
last_is l [] h = let z : ⊥ = omega arith in absurd z
last_is l (p ∷ []) h = refl
last_is l (p ∷ q ∷ places) h =
    last_is l (q ∷ places) (omega arith)
    ∙ ap (λ (n : ℕ). sequence_of (get_or l n [])) (ap (λ (n : ℕ). get_or (p ∷ q ∷ places) n 0) {x = suc (length (q ∷ places) - 1)} {y = length (p ∷ q ∷ places) - 1} (omega arith))

pub group_first : (purged : ℕ) (l : List Message) (places : List ℕ) (s : ℕ) → length places ≡ 0 → suc purged ≡ group_after purged (deltas_at l places) s
group_first purged l [] s e = refl
group_first purged l (p ∷ places) s e = let z : ⊥ = omega arith in absurd z

-- the highest of the log and of what was purged
abbrev highest_with : ℕ → List Message → ℕ
highest_with purged log = max purged (highest_group log)

group_by : (purged : ℕ) (l : List Message) (places : List ℕ) (s : ℕ) → 0 < length places
    → let log = deltas_at l places in cond (ltb s (last_sequence log)) (suc (highest_with purged log)) (highest_with purged log) ≡ group_after purged log s
group_by purged l [] s h = let z : ⊥ = omega arith in absurd z
group_by purged l (p ∷ places) s h = refl

pub group_behind : (purged : ℕ) (l : List Message) (places : List ℕ) (s last highest : ℕ) {above : Bool} → 0 < length places → last ≡ sequence_of (get_or l (get_or places (length places - 1) 0) [])
    → highest ≡ max purged (highest_group (deltas_at l places)) → ltb s last ≡ above → cond above (suc highest) highest ≡ group_after purged (deltas_at l places) s
group_behind purged l places s last highest {above} some is_last is-highest e =
    let log = deltas_at l places in
    ap (λ (n : ℕ). cond above (suc n) n) is-highest
    ∙ ap (λ (b : Bool). cond b (suc (highest_with purged log)) (highest_with purged log)) (sym e ∙ ap (ltb s) (is_last ∙ sym (last_is l places some)))
    ∙ group_by purged l places s some
