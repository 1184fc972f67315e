-- The cases of compose: which answer the definitions give, by what is known of the arguments.
use Rattle.std.specs.Prelude.{◌≡◌, Bool, true, false, not, ◌&&◌, ◌||◌, List, ℕ, length, T, eqb, ltb}
use Rattle.std.proofs.Math.Path.{refl, ap}
use Rattle.std.proofs.Common.{sym, ◌∙◌}
use Rattle.model.specs.Bytes.{is_bytes, number}
use Rattle.model.specs.Layout.{image_size, message_room, line_size}
use Rattle.model.specs.Image.{state_in, is_image}
use Rattle.model.specs.Compose.{composed}
use Rattle.model.specs.Codes.{lowest_code, wrong_size, commands_sized, compose_content, compose_conditions}
use Rattle.model.specs.Calls.{Composed, compose_answer, compose_code, compose}
use Rattle.laws_order.specs.TestLaws.{is_true}
use Rattle.laws_codes.specs.Ladder.{Answers, Passed, met, free, fails, passes}
use Rattle.compose_message.specs.Answer.{refusal}
use Rattle.compose_checks.specs.Checks.{sizes_right}
use Rattle.compose_message.specs.Stages.{late_conditions, late_answer}

module _ (b line commands : List ℕ) (flag priority : ℕ) (buffer : List ℕ) where
  abbrev wrong : Bool
  wrong = wrong_size b || ltb (length buffer) message_room || not (is_bytes line && eqb (length line) line_size)

  abbrev late : ℕ
  late = lowest_code (late_conditions (state_in b) (number line) flag)

  abbrev answer : ℕ → Composed
  answer code = compose_answer code (composed (state_in b) (number line) commands (eqb flag 1) priority) buffer

  answered : {n : ℕ} → Answers (compose_conditions b line commands flag priority (length buffer)) n → answer n ≡ compose b line commands flag priority buffer
  unfolding compose compose_code
  answered r = ap answer (sym r.is)

  -- ---- 1
  module _ (bytes : T (is_bytes line)) where
    wrong_is : wrong ≡ not (sizes_right (length b) (length buffer) (length line))
    wrong_is =
        ap (λ (t : Bool). wrong_size b || ltb (length buffer) message_room || not (t && eqb (length line) line_size)) (is_true (is_bytes line) bytes)
        ∙ go (eqb (length b) image_size) (ltb (length buffer) message_room) (eqb (length line) line_size)
      where
        go : (i r l : Bool) → not i || r || not l ≡ not (i && not r && l)
        go true true l = refl
        go true false l = refl
        go false r l = refl

    pub sizes_case : false ≡ sizes_right (length b) (length buffer) (length line) → refusal 1 buffer ≡ compose b line commands flag priority buffer
    sizes_case e = answered (met (wrong_is ∙ ap not (sym e)))

    module _ (sizes : true ≡ sizes_right (length b) (length buffer) (length line)) where
      right : wrong ≡ false
      right = wrong_is ∙ ap not (sym sizes)

      -- ---- 2, 3 and 6
      pub image_case : is_image b ≡ false → refusal 2 buffer ≡ compose b line commands flag priority buffer
      image_case e = answered (free right (fails (sym e)))

      module _ (image : T (is_image b)) where
        image_passed : Passed 2 (compose_conditions b line commands flag priority (length buffer))
        image_passed n r = free right (passes (sym (is_true (is_image b) image)) r)

        pub commands_case : false ≡ commands_sized commands → refusal 3 buffer ≡ compose b line commands flag priority buffer
        commands_case e = answered (image_passed 3 (fails e))

        module _ (eights : true ≡ commands_sized commands) where
          pub content_case : false ≡ compose_content commands flag priority → refusal 6 buffer ≡ compose b line commands flag priority buffer
          content_case e = answered (image_passed 6 (passes eights (fails e)))

          -- ---- 9 to 11, and the message
          pub late_case : true ≡ compose_content commands flag priority → late_answer (state_in b) (number line) commands flag priority buffer ≡ compose b line commands flag priority buffer
          unfolding late_answer
          late_case e = answered (image_passed late (passes eights (passes e (record { is = refl }))))
