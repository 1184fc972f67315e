-- The form of a text, as the answer of its check.
use Rattle.std.specs.Prelude.{◌≡◌, Bool, false, ◌&&◌, List, [], ◌∷◌, ◌++◌, ℕ, suc, ◌+◌, ◌*◌, ◌/◌, ◌%◌, ◌≤◌, ◌<◌, length, take, drop}
use Rattle.std.proofs.Common.{sym, ◌∙◌, ap, ap₂, arith, le-leb, eq-eqb}
use Rattle.model.specs.Lists.{every}
use Rattle.model.specs.Layout.{text_part_size, text_room}
use Rattle.model.specs.Text.{comma, text_parts, text_part_right, text_right}
use Rattle.laws_order.specs.ScanLaws.{every_step}
use Rattle.laws_order.specs.TestLaws.{false_of}
use Rattle.laws_wire.specs.BytesLaws.{length_parts, parts_at}
use Rattle.laws_text.specs.TextLaws.{Text, text_out}

pub text_wrong : (t : List ℕ) → (Text t (suc (length t) / text_part_size) → ⊥) → false ≡ text_right t
text_wrong t f = sym (false_of (text_right t) (λ r. f (text_out t r)))

-- of the right length it is right if its parts are
pub text_sized : (t : List ℕ) → length t ≤ text_room → suc (length t) % text_part_size ≡ 0 → text_right t ≡ every text_part_right (text_parts t)
unfolding text_right
text_sized t h e = ap₂ (λ (a b : Bool). a && b && every text_part_right (text_parts t)) (le-leb (length t) text_room h) (eq-eqb (suc (length t) % text_part_size) 0 e)

-- one part, and those after it
pub part_step : (t : List ℕ) (k : ℕ) → k < suc (length t) / text_part_size
    → every text_part_right (drop k (text_parts t)) ≡ text_part_right (take text_part_size (drop (text_part_size * k) (t ++ comma ∷ []))) && every text_part_right (drop (k + 1) (text_parts t))
part_step t k h =
    let count : ℕ = suc (length t) / text_part_size in
    every_step text_part_right (text_parts t) k [] (omega (arith, length_parts count text_part_size (t ++ comma ∷ [])))
    ∙ ap (λ (p : List ℕ). text_part_right p && every text_part_right (drop (k + 1) (text_parts t))) (parts_at count text_part_size (t ++ comma ∷ []) k h)
