-- The change of the command at a place, by the three fields read there.
use Rattle.std.specs.Prelude.{◌≡◌, refl, List, [], ◌∷◌, ℕ, zero, suc, ◌+◌, ◌≤◌, ℤ, pos, length, take, drop, get_or}
use Rattle.std.proofs.Common.{sym, ap, ap₂, ◌∙◌, arith, not-suc-le-zero}
use Rattle.model.specs.Bytes.{field, integer}
use Rattle.model.specs.Layout.{command_size, operation_at, tag_at, value_at, value_size}
use Rattle.model.specs.Message.{value_of}
use Rattle.model.specs.Setpoints.{Change, operate, change_of}
use Rattle.laws_wire.specs.BytesLaws.{field_part}

-- past the end stands the default
pub get_d_past : {A : Type 0} (l : List A) (i : ℕ) (d : A) → length l ≤ i → get_or l i d ≡ d
get_d_past [] i d h = refl
get_d_past (a ∷ l) zero d h = absurd (not-suc-le-zero h)
get_d_past (a ∷ l) (suc i) d h = get_d_past l i d (omega arith)

pub change_read : (c : List ℕ) (at : ℕ) (values : List ℤ) {operation tag : ℕ} {v before after : ℤ} {d : Change}
    → operation ≡ field c (at + operation_at) 1 → v ≡ integer (field c (at + value_at) value_size) → tag ≡ field c (at + tag_at) 1
    → before ≡ get_or values tag (pos 0) → after ≡ operate operation before v
    → d.tag ≡ field c (at + tag_at) 1 → d.before ≡ before → d.after ≡ after → d ≡ change_of (take command_size (drop at c)) values
unfolding change_of
change_read c at values {operation} {tag} {v} {before} {after} {d} o w t e f first second third =
    ap₂ (λ (n : ℕ) (z : ℤ). record { tag = n; before = d.before; after = z }) (first ∙ here) (third ∙ f ∙ ap₂ (λ (n : ℕ) (z : ℤ). operate n before z) (o ∙ sym (part operation_at 1 (omega arith))) (w ∙ ap integer (sym (part value_at value_size (omega arith)))))
    ∙ ap₂ (λ (x y : ℤ). record { tag = field k tag_at 1; before = x; after = operate (field k operation_at 1) y (value_of k) }) (second ∙ found) found
  where
    k : List ℕ
    k = take command_size (drop at c)

    part : (from size : ℕ) → from + size ≤ command_size → field k from size ≡ field c (at + from) size
    part from size h = field_part c at command_size from size h

    here : field c (at + tag_at) 1 ≡ field k tag_at 1
    here = sym (part tag_at 1 (omega arith))

    found : before ≡ get_or values (field k tag_at 1) (pos 0)
    found = e ∙ ap (λ (n : ℕ). get_or values n (pos 0)) (t ∙ here)
