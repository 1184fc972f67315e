-- Demand 3 of the definitions' own calls: `Agreement` holds of them.
use Rattle.std.specs.Prelude.{◌≡◌, not, List, ◌∷◌, ℕ, length, T}
use Rattle.std.proofs.Common.{sym, ◌∙◌, ap, subst}
use Rattle.model.specs.Lists.{◌∈◌}
use Rattle.model.specs.Message.{Message, sequence_of, numbered, passes}
use Rattle.model.specs.Order.{purged, sequences_of}
use Rattle.model.specs.Image.{log_in}
use Rattle.model.specs.Codes.{small_steps}
use Rattle.model.specs.Calls.{deliver}
use Rattle.model_runs.specs.Run.{Given, Event, image_after, Run, state_after, purged_after, CallAgrees, Agreement, Begins, Answers}
use Rattle.laws_order.specs.TestLaws.{and_r}
use Rattle.laws_state.specs.ImageLaws.{log_back}
use Rattle.laws_state.specs.DeliverLaws.{purged_delivery}
use Rattle.laws_run.specs.StateRuns.{state_valid, run_image, event_facts}
use Rattle.laws_run.specs.PlayedRuns.{plays_log, plays_history}
use Rattle.laws_run.specs.PurgedRuns.{purged_list}
use Rattle.laws_run.specs.RemainingRuns.{same_images}
use Rattle.laws_run.specs.PairRuns.{pairs_values}

pub agreement : Agreement Begins Answers
agreement = record {
  call = λ given b begun e earlier run.
      subst (λ (i : List ℕ). CallAgrees (state_after given earlier) (state_after given (e ∷ earlier)) i e.call e.answer) (sym (run_image given b begun earlier run.1))
      (event_facts given b begun e earlier run).agrees;
  list = λ given b begun events run. record {
    image = run_image given b begun events run;
    played = plays_log given b begun events run;
    image_log = ap (λ (i : List ℕ). sequences_of (log_in i)) (run_image given b begun events run) ∙ ap sequences_of (log_back (state_after given events) (state_valid given events));
    setpoints = pairs_values given b begun events run;
    purged = purged_list given b begun events run;
    history = plays_history given b begun events run;
  };
  equal = same_images;
}

-- A message whose sequence was purged, whichever its bytes, "answers 0 with no step" after whatever later calls, and leaves every byte.
pub purged_again : (given : Given) (b : List ℕ) → Begins given b → (events : List Event) → Run Answers b events
    → (m : Message) (steps : List ℕ) → T (not (small_steps (length steps))) → T (passes m) → sequence_of m ∈ purged_after given events
    → deliver (image_after b events) m steps ≡ record { code = 0; undos = 0; executions = 0; image = image_after b events; steps = steps }
purged_again given b begun events run m steps large pass k =
    subst (λ (i : List ℕ). deliver i m steps ≡ record { code = 0; undos = 0; executions = 0; image = i; steps = steps }) (sym (run_image given b begun events run))
    (purged_delivery (state_after given events) (state_valid given events) m steps large pass
    (and_r (numbered (sequence_of m)) (purged (state_after given events) (sequence_of m)) ((purged_list given b begun events run (sequence_of m)).0 k)))
