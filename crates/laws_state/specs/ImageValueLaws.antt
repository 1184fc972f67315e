-- The values of an image read back to the setpoints of its state, each by its four bytes.
use Rattle.std.specs.Prelude.{◌≡◌, List, ℕ, ◌+◌, ◌*◌, ◌<◌, get_or, T, ℤ, pos}
use Rattle.std.proofs.Common.{sym, ◌∙◌, ap}
use Rattle.model.specs.Bytes.{field, integer}
use Rattle.model.specs.Layout.{value_size, tag_count, setpoints_start}
use Rattle.model.specs.Order.{State}
use Rattle.model.specs.Setpoints.{setpoints_of}
use Rattle.model.specs.Image.{values_of, image_of, Valid, values_in, state_in, is_image}
use Rattle.laws_origin.specs.OriginLaws.{value_in}
use Rattle.laws_state.specs.ValueLaws.{setpoints_range, values_read}
use Rattle.laws_state.specs.ImageLaws.{length_setpoints, values_at, image_own, own_valid}

-- they read back to the setpoints
pub values_back : (S : State) → Valid S → values_in (image_of S) ≡ setpoints_of S
unfolding values_in values_of
values_back S valid =
    values_read (setpoints_of S) (length_setpoints S valid) (setpoints_range S valid) setpoints_start (image_of S) (values_at S).0 (values_at S).1

-- a tag's value, by its four bytes
pub value_at : (b : List ℕ) → T (is_image b) → (tag : ℕ) → tag < tag_count
    → integer (field b (setpoints_start + value_size * tag) value_size) ≡ get_or (setpoints_of (state_in b)) tag (pos 0)
unfolding values_in
value_at b image tag h =
    sym (value_in setpoints_start b tag h)
    ∙ ap (λ (t : List ℤ). get_or t tag (pos 0)) (ap values_in (image_own b image) ∙ values_back (state_in b) (own_valid b image))
