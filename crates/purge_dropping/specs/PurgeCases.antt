-- The cases of purge: which answer the definitions give, by what is known of the image.
use Rattle.std.specs.Prelude.{◌≡◌, true, false, List, ℕ, length, T, eqb}
use Rattle.std.proofs.Common.{sym, ◌∙◌}
use Rattle.std.proofs.Math.Path.{ap}
use Rattle.model.specs.Layout.{image_size}
use Rattle.model.specs.Order.{State}
use Rattle.model.specs.Image.{state_in, is_image}
use Rattle.model.specs.Codes.{exceeds_log, many_floors, purge_conditions}
use Rattle.model.specs.Calls.{purge_answer, purge_code, purge}
use Rattle.laws_order.specs.TestLaws.{is_true, eq→eqb}
use Rattle.laws_codes.specs.Ladder.{Answers, Passed, none, met, free, fails, passes}
use Rattle.laws_state.specs.ImageLaws.{image_size_lem, image_own, own_valid}

module _ (b : List ℕ) (k : ℕ) where
  abbrev S : State
  S = state_in b

  answered : {n : ℕ} → Answers (purge_conditions b k) n → purge_answer n S b k ≡ purge b k
  unfolding purge purge_code
  answered r = ap (λ (n : ℕ). purge_answer n S b k) (sym r.is)

  -- ---- 1 and 2
  pub size_case : false ≡ eqb (length b) image_size → purge_answer 1 S b k ≡ purge b k
  size_case e = answered (fails e)

  pub image_case : true ≡ eqb (length b) image_size → is_image b ≡ false → purge_answer 2 S b k ≡ purge b k
  image_case size e = answered (passes size (fails (sym e)))

  -- ---- 15 and 16, and what is left
  module _ (image : T (is_image b)) where
    sized : true ≡ eqb (length b) image_size
    sized = sym (is_true (eqb (length b) image_size) (eq→eqb (ap length (image_own b image) ∙ image_size_lem S (own_valid b image))))

    image_passed : Passed 2 (purge_conditions b k)
    image_passed n r = passes sized (passes (sym (is_true (is_image b) image)) r)

    pub log_case : exceeds_log S k ≡ true → purge_answer 15 S b k ≡ purge b k
    log_case e = answered (image_passed 15 (met e))

    module _ (within : exceeds_log S k ≡ false) where
      pub floors_case : many_floors S k ≡ true → purge_answer 16 S b k ≡ purge b k
      floors_case e = answered (image_passed 16 (free within (met e)))

      pub left_case : many_floors S k ≡ false → purge_answer 0 S b k ≡ purge b k
      left_case e = answered (image_passed 0 (free within (free e none)))
