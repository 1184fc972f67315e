-- The plain station's state along a list of calls of the definitions: it is valid, and its image is the one that the calls leave.
use Rattle.std.specs.Prelude.{◌≡◌, refl, List, [], ◌∷◌, ◌++◌, ℕ, zero, suc}
use Rattle.std.proofs.Common.{◌∙◌, subst, arith, suc-ne-zero}
use mathlib.Core.List.Memᴰ
use Rattle.model.specs.Image.{image_of, Valid}
use Rattle.model.specs.Codes.{lowest_code, empty_conditions}
use Rattle.model.specs.Calls.{Delivered, empty_state, empty_answer, empty}
use Rattle.model_runs.specs.Run.{Given, Call, Event, image_after, Run, state_begun, state_after, Begins, Answers}
use Rattle.laws_origin.specs.OriginLaws.{first_right}
use Rattle.laws_run.specs.CallRuns.{CallFacts, call_facts, next_valid}

pub empty_valid : Valid empty_state
empty_valid = record { ascends = tt; fits = omega arith; pass = λ m k. absurd (Memᴰ.not-nil k); above = λ m k. absurd (Memᴰ.not-nil k); right = first_right }

pub state_valid : (given : Given) (events : List Event) → Valid (state_after given events)
state_valid given [] = empty_valid
state_valid given (e ∷ earlier) = next_valid (state_after given earlier) (state_valid given earlier) e.call

pub begins_image : (given : Given) (b : List ℕ) → Begins given b → b ≡ image_of (state_begun given)
unfolding empty
begins_image given b r = r.1 ∙ go (lowest_code (empty_conditions given.buffer)) r.0
  where
    go : (n : ℕ) → (empty_answer n given.buffer).code ≡ 0 → (empty_answer n given.buffer).image ≡ image_of empty_state
    go zero e = refl
    go (suc n) e = absurd (suc-ne-zero n e)

-- a list of calls from the image that empty wrote
module _ (given : Given) (b : List ℕ) (begun : Begins given b) where
  facts_after : (e : Event) (earlier : List Event) → image_after b earlier ≡ image_of (state_after given earlier) → Answers (image_after b earlier) e.call e.answer
      → CallFacts (state_after given earlier) (state_after given (e ∷ earlier)) e.call e.answer
  facts_after e earlier is h =
      call_facts (state_after given earlier) (state_valid given earlier) e.call e.answer (subst (λ (i : List ℕ). Answers i e.call e.answer) is h)

  pub run_image : (events : List Event) → Run Answers b events → image_after b events ≡ image_of (state_after given events)
  run_image [] run = begins_image given b begun
  run_image (e ∷ earlier) run = (facts_after e earlier (run_image earlier run.1) run.0).image

  pub event_facts : (e : Event) (earlier : List Event) → Run Answers b (e ∷ earlier) → CallFacts (state_after given earlier) (state_after given (e ∷ earlier)) e.call e.answer
  event_facts e earlier run = facts_after e earlier (run_image earlier run.1) run.0

-- the run up to a call
pub run_before : (answers : List ℕ → Call → Delivered → Type 0) (b : List ℕ) (later events : List Event) → Run answers b (later ++ events) → Run answers b events
run_before answers b [] events run = run
run_before answers b (e ∷ later) events run = run_before answers b later events run.1
