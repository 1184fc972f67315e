-- Whether the sequences from a place on have numbers, taken one at a time.
use Rattle.std.specs.Prelude.{◌≡◌, refl, Bool, true, false, not, ◌&&◌, List, [], ℕ, ◌+◌, ◌*◌, ◌/◌, ◌≤◌, ◌<◌, length, drop}
use Rattle.std.proofs.Common.{◌∙◌, ap, arith, eq-eqb, ne_eqb}
use Rattle.model.specs.Lists.{every}
use Rattle.model.specs.Bytes.{number, field}
use Rattle.model.specs.Layout.{sequence_size}
use Rattle.model.specs.Message.{number_of, numbered}
use Rattle.model.specs.Text.{sequence_parts, all_numbered}
use Rattle.laws_order.specs.ScanLaws.{every_step, every_end}
use Rattle.laws_wire.specs.BytesLaws.{length_parts, parts_at}

abbrev has_number : List ℕ → Bool
has_number s = numbered (number s)

unfoldable pub numbered_from : List ℕ → ℕ → Bool
numbered_from b k = every has_number (drop k (sequence_parts b))

module _ (b : List ℕ) where
  pub numbered_all : numbered_from b 0 ≡ all_numbered b
  unfolding numbered_from all_numbered
  numbered_all = refl

  module _ (k : ℕ) where
    one_more : k < length b / sequence_size
        → numbered_from b k ≡ numbered (field b (sequence_size * k) sequence_size) && numbered_from b (k + 1)
    unfolding numbered_from
    one_more h =
        every_step has_number (sequence_parts b) k [] (omega (arith, length_parts (length b / sequence_size) sequence_size b))
        ∙ ap (λ (p : List ℕ). has_number p && every has_number (drop (k + 1) (sequence_parts b)))
        (parts_at (length b / sequence_size) sequence_size b k h)

    module _ (h : k < length b / sequence_size) where
      pub numbered_stop : number_of (field b (sequence_size * k) sequence_size) ≡ 0 → numbered_from b k ≡ false
      numbered_stop e = one_more h ∙ ap (λ (t : Bool). not t && numbered_from b (k + 1)) (eq-eqb _ 0 e)

      pub numbered_next : (number_of (field b (sequence_size * k) sequence_size) ≡ 0 → ⊥) → numbered_from b k ≡ numbered_from b (k + 1)
      numbered_next e = one_more h ∙ ap (λ (t : Bool). not t && numbered_from b (k + 1)) (ne_eqb _ 0 e)

    pub numbered_end : length b / sequence_size ≤ k → numbered_from b k ≡ true
    unfolding numbered_from
    numbered_end h = every_end has_number (sequence_parts b) k (omega (arith, length_parts (length b / sequence_size) sequence_size b))

pub ruleset numbering = (numbered_all, numbered_stop, numbered_next, numbered_end)
