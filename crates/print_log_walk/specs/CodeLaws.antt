-- The code of log message, by the code of the input and whether the place is past the log.
use Rattle.std.proofs.Math.Path.{◌≡◌, refl}
use Rattle.std.specs.Prelude.{Bool, cond, not, List, ℕ, suc, ◌≤◌, ◌<◌, leb}
use Rattle.std.proofs.Math.Bool.{true, false}
use native.Mathlib.Omega.{arith}
use Rattle.std.proofs.Math.Dec.{nleb→lt}
use borrow.Author.Tests.{leb-true}
use Rattle.model.specs.Image.{log_count, is_image}
use Rattle.model.specs.Codes.{lowest_code, wrong_size, read_conditions, log_message_conditions}
use Rattle.model.specs.Calls.{log_message_code}
use Rattle.laws_order.specs.TestLaws.{is_false}
use Rattle.laws_codes.specs.Ladder.{Answers, Passed, none, free, all_free}

module _ (b : List ℕ) (place : ℕ) where
  abbrev input_code : ℕ
  input_code = lowest_code (read_conditions b)

  abbrev past : Bool
  past = leb (log_count b) place

  -- the input is a station image: the ladder of the place goes on
  input_passed : input_code ≡ 0 → Passed 2 (log_message_conditions b place)
  input_passed e n r = let f = all_free (read_conditions b) (omega arith) e in free (is_false _ f.0) (free (is_false _ f.1.0) r)

  -- the log has the place
  pub code_found : log_message_code b place ≡ 0 → (input_code ≡ 0) × (place < log_count b)
  unfolding log_message_code
  code_found e =
      let r = all_free (log_message_conditions b place) (omega arith) e in
      let input : Answers (read_conditions b) 0 = free (is_false _ r.0) (free (is_false _ r.1.0) none) in
      (input.is, nleb→lt (log_count b) place r.1.1.0)

  -- the input is refused, or it is not: by the tests of 1, 2 and 12
  pub code_refused : (n : ℕ) → log_message_code b place ≡ suc n → suc n < 12 → input_code ≡ suc n
  unfolding log_message_code
  code_refused n e h = go (wrong_size b) (not (is_image b)) past e
    where
      go : (wrong other past : Bool) → ◌≡◌ {A = ℕ} (cond wrong 1 (cond other 2 (cond past 12 0))) (suc n) → ◌≡◌ {A = ℕ} (cond wrong 1 (cond other 2 0)) (suc n)
      go true other past e = e
      go false true past e = e
      go false false true e = let z : ⊥ = omega arith in absurd z
      go false false false e = e

  -- it ends before the place
  pub code_past : log_message_code b place ≡ 12 → (input_code ≡ 0) × (log_count b ≤ place)
  unfolding log_message_code
  code_past e = go (wrong_size b) (not (is_image b)) past refl e
    where
      go : (wrong other t : Bool) → past ≡ t → ◌≡◌ {A = ℕ} (cond wrong 1 (cond other 2 (cond t 12 0))) 12
          → (◌≡◌ {A = ℕ} (cond wrong 1 (cond other 2 0)) 0) × (log_count b ≤ place)
      go true other t f e = let z : ⊥ = omega arith in absurd z
      go false true t f e = let z : ⊥ = omega arith in absurd z
      go false false true f e = (refl, leb-true (log_count b) place f)
      go false false false f e = let z : ⊥ = omega arith in absurd z

  pub code_ended : input_code ≡ 0 → ¬ (log_message_code b place ≡ 0) → log_count b ≤ place
  unfolding log_message_code
  code_ended f g = go past refl
    where
      go : (t : Bool) → past ≡ t → log_count b ≤ place
      go true e = leb-true (log_count b) place e
      go false e = absurd (g (input_passed f 0 (free e none)).is)
