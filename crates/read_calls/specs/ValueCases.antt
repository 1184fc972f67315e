-- The cases of setpoint.
use Rattle.std.specs.Prelude.{◌≡◌, refl, true, not, List, ℕ, zero, suc, ◌+◌, ◌*◌, ◌<◌, length, get_or, T, eqb, leb, ℤ, pos}
use Rattle.std.proofs.Common.{sym, ◌∙◌, arith, leb-false}
use Rattle.std.proofs.Math.Path.{ap}
use Rattle.std.specs.Int.Signed.{mag}
use Rattle.std.proofs.lemmas.Bool.{not-true}
use Rattle.model.specs.Bytes.{field, integer}
use Rattle.model.specs.Layout.{image_size, value_size, tag_count, setpoints_start}
use Rattle.model.specs.Setpoints.{setpoints_of}
use Rattle.model.specs.Image.{state_in, is_image}
use Rattle.model.specs.Codes.{lowest_code, setpoint_conditions}
use Rattle.model.specs.Calls.{setpoint, setpoint_answer}
use Rattle.laws_order.specs.TestLaws.{true_T}
use Rattle.laws_state.specs.ImageLaws.{own_valid}
use Rattle.laws_state.specs.ValueLaws.{in_range_mag, setpoints_range}
use Rattle.laws_state.specs.ImageValueLaws.{value_at}
use Rattle.laws_codes.specs.Ladder.{Answers, none, free, passes, all_free, not_not}

module _ (b : List ℕ) (tag : ℕ) where
  pub value_told : {n : ℕ} → Answers (setpoint_conditions b tag) n → setpoint_answer n b tag ≡ setpoint b tag
  unfolding setpoint
  value_told r = ap (λ (n : ℕ). setpoint_answer n b tag) (sym r.is)

  -- one of the 64
  pub tag_below : true ≡ not (leb tag_count tag) → tag < tag_count
  tag_below t = leb-false tag_count tag (not-true (leb tag_count tag) (sym t))

  pub value_there : true ≡ eqb (length b) image_size → true ≡ is_image b → true ≡ not (leb tag_count tag)
      → (v : ℤ) → v ≡ integer (field b (setpoints_start + value_size * tag) value_size) → record { code = 0; value = v } ≡ setpoint b tag
  value_there s i t v e =
      ap (λ (x : ℤ). record { code = 0; value = x }) (e ∙ value_at b (true_T (is_image b) (sym i)) tag (tag_below t)) ∙ value_told (passes s (passes i (free (not-true _ (sym t)) none)))

-- ---- a value that is answered fits 32 bits
pub value_fits : (b : List ℕ) (tag : ℕ) → mag (setpoint b tag).value < 2147483648
unfolding setpoint
value_fits b tag = go (lowest_code (setpoint_conditions b tag)) refl
  where
    go : (n : ℕ) → lowest_code (setpoint_conditions b tag) ≡ n → mag (setpoint_answer n b tag).value < 2147483648
    go zero e =
        let image : T (is_image b) = not_not (is_image b) (all_free (setpoint_conditions b tag) (omega arith) e).1.0 in
        let v = get_or (setpoints_of (state_in b)) tag (pos 0) in
        omega (arith, in_range_mag v (setpoints_range (state_in b) (own_valid b image) tag))
    go (suc n) e = omega arith
