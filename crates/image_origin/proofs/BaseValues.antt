-- Whether the base values from a tag on are in range, taken one at a time.
use Rattle.std.specs.Prelude.{◌≡◌, refl, Bool, true, false, ◌&&◌, List, ℕ, ◌+◌, ◌*◌, ◌≤◌, ◌<◌, length, drop, get_or, ℤ, pos}
use Rattle.std.proofs.Common.{◌∙◌, ap, arith}
use Rattle.model.specs.Lists.{every}
use Rattle.model.specs.Bytes.{field, integer}
use Rattle.model.specs.Layout.{value_size, tag_count, base_start}
use Rattle.model.specs.Order.{in_range}
use Rattle.model.specs.Image.{messages_start_in, base_in}
use Rattle.laws_order.specs.ScanLaws.{every_step, every_end}
use Rattle.laws_origin.specs.OriginLaws.{start_least}
use Rattle.message_commands.specs.CommandTests.{value_right}
use Rattle.image_origin.specs.OriginParts.{base_count, base_value}

unfoldable pub right_from : List ℕ → ℕ → Bool
right_from b tag = every in_range (drop tag (base_in b))

module _ (b : List ℕ) where
  pub right_all : right_from b 0 ≡ every in_range (base_in b)
  unfolding right_from
  right_all = refl

  module _ (tag : ℕ) (room : messages_start_in b ≤ length b) where
    -- a word is right exactly if its value is in range
    word_right : (n : ℕ) (v : ℤ) → v ≡ integer n → in_range v ≡ value_right n
    unfolding value_right
    word_right n v e = ap in_range e

    one_more : tag < tag_count → right_from b tag ≡ value_right (field b (base_start + value_size * tag) value_size) && right_from b (tag + 1)
    unfolding right_from
    one_more h =
        every_step in_range (base_in b) tag (pos 0) (omega (arith, base_count b room))
        ∙ ap (λ (t : Bool). t && right_from b (tag + 1)) (word_right (field b (base_start + value_size * tag) value_size) (get_or (base_in b) tag (pos 0)) (base_value b room tag h))

    module _ (h : tag < tag_count) where
      pub right_stop : value_right (field b (base_start + value_size * tag) value_size) ≡ false → right_from b tag ≡ false
      right_stop e = one_more h ∙ ap (λ (t : Bool). t && right_from b (tag + 1)) e

      pub right_next : value_right (field b (base_start + value_size * tag) value_size) ≡ true → right_from b tag ≡ right_from b (tag + 1)
      right_next e = one_more h ∙ ap (λ (t : Bool). t && right_from b (tag + 1)) e

    pub right_end : tag_count ≤ tag → right_from b tag ≡ true
    unfolding right_from
    right_end h = every_end in_range (base_in b) tag (omega (arith, base_count b room))

pub ruleset rest = (start_least, right_all, right_stop, right_next, right_end)
