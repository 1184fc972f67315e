-- The pairs of a run's steps, played in turn: they lead to the setpoints of the station's state, and to no other values.
use Rattle.std.specs.Prelude.{◌≡◌, refl, ◌↔◌, Bool, cond, List, [], ◌∷◌, ℕ, ◌-◌, length, take, drop, ℤ}
use Rattle.std.proofs.Common.{sym, ◌∙◌, ap, subst, ⊎_elim}
use Rattle.std.proofs.Math.Option.{some, some-injective}
use Rattle.model.specs.Message.{Message}
use Rattle.model.specs.Order.{State, log_of}
use Rattle.model.specs.Setpoints.{start_values, setpoints_of}
use Rattle.model.specs.Image.{image_of, values_in, Valid}
use Rattle.model.specs.Steps.{StepRecord, records_of, records_between, Standing, PlaysPairs}
use Rattle.model.specs.Calls.{Delivered, empty_state}
use Rattle.model_runs.specs.Run.{Given, Call, delivery, purging, Event, image_after, Run, state_next, state_after, old_log, records_read, standing_from, PairsPlayed, CallAgrees, Begins, Answers}
use Rattle.laws_wire.specs.RecordLaws.{records_self}
use Rattle.laws_origin.specs.OriginLaws.{start_same}
use Rattle.laws_state.specs.ImageValueLaws.{values_back}
use Rattle.laws_state.specs.PairLaws.{standing_in, state_pairs_play, pairs_unique}
use Rattle.laws_purge.specs.PurgeLaws.{purge_log}
use Rattle.laws_purge.specs.PurgeCodes.{accepts_purge_lem}
use Rattle.laws_purge.specs.PurgedState.{purge_setpoints}
use Rattle.laws_purge.specs.PurgedPairs.{standing_purged}
use Rattle.laws_run.specs.CallRuns.{next_made, next_valid, delivery_origin, delivery_keeps, outcome}
use Rattle.laws_run.specs.StateRuns.{empty_valid, state_valid, begins_image, run_image, event_facts}

-- ---- one call
-- Its records can be played from the setpoints of a state, where the executions of the state's log stand, to those of the next one.
record CallPairs (S next : State) (c : Call) (a : Delivered) : Type 0 where
  records : List StepRecord
  read : records_read a ≡ some records
  plays : PlaysPairs (standing_from c a.code (standing_in [] S)) (setpoints_of S) records (standing_in [] next) (setpoints_of next)

delivery_pairs : (S : State) → Valid S → (b : List ℕ) (m : Message) (steps : List ℕ) (a : Delivered)
    → CallAgrees S (state_next S (delivery m steps)) b (delivery m steps) a → CallPairs S (state_next S (delivery m steps)) (delivery m steps) a
delivery_pairs S valid b m steps a agrees = record {
  records = records_between S R;
  read = agrees.records ∙ ap (λ (v : List ℤ). some (records_of v (log_of S) (log_of R))) (sym (start_same S R same));
  plays = state_pairs_play [] S R same valid.ascends (next_valid S valid (delivery m steps)).ascends (delivery_keeps S m steps);
}
  where
    R : State
    R = state_next S (delivery m steps)

    same : S.origin ≡ R.origin
    same = sym (delivery_origin S m steps)

-- a purge has no records, and lets the executions of what it drops go
purge_pairs : (S : State) → Valid S → (b : List ℕ) (K : ℕ) (a : Delivered) → CallAgrees S (state_next S (purging K)) b (purging K) a → CallPairs S (state_next S (purging K)) (purging K) a
purge_pairs S valid b K a agrees = record {
  records = [];
  read = agrees.records ∙ ap (λ (old : List Message). some (records_of (start_values R) old (log_of R))) facts.0 ∙ ap some (records_self (start_values R) (log_of R));
  plays = (facts.1, facts.2);
}
  where
    R : State
    R = state_next S (purging K)

    standing : List Standing
    standing = standing_in [] S

    facts : (old_log S (purging K) a.code ≡ log_of R) × (standing_from (purging K) a.code standing ≡ standing_in [] R) × (setpoints_of S ≡ setpoints_of R)
    facts = ⊎_elim (λ r. let next = sym (next_made S (purging K) r.1) in (
      ap (λ (t : Bool). cond t (drop K (log_of S)) (log_of S)) r.0 ∙ sym (purge_log S valid K) ∙ ap log_of next,
      ap (λ (t : Bool). cond t (take (length standing - K) standing) standing) r.0 ∙ standing_purged S valid K (accepts_purge_lem S K r.1).0 ∙ ap (standing_in []) next,
      sym (purge_setpoints S valid K) ∙ ap setpoints_of next,
    )) (λ r. (
      ap (λ (t : Bool). cond t (drop K (log_of S)) (log_of S)) r.0 ∙ ap log_of (sym r.1),
      ap (λ (t : Bool). cond t (take (length standing - K) standing) standing) r.0 ∙ ap (standing_in []) (sym r.1),
      ap setpoints_of (sym r.1),
    )) (outcome S R b (purging K) a agrees)

call_pairs : (S : State) → Valid S → (b : List ℕ) (c : Call) (a : Delivered) → CallAgrees S (state_next S c) b c a → CallPairs S (state_next S c) c a
call_pairs S valid b (delivery m steps) a agrees = delivery_pairs S valid b m steps a agrees
call_pairs S valid b (purging K) a agrees = purge_pairs S valid b K a agrees

-- ---- whole lists
-- The pairs can be played to the setpoints of a state, where the executions of its log stand, and lead to no other values.
record PairsLead (begun : List ℕ) (events : List Event) (S : State) : Type 0 where
  played : PairsPlayed begun events (standing_in [] S) (setpoints_of S)
  only : (standing : List Standing) (values : List ℤ) → PairsPlayed begun events standing values → values ≡ setpoints_of S

pairs_begun : (b : List ℕ) → values_in b ≡ setpoints_of empty_state → PairsLead b [] empty_state
unfolding log_of
pairs_begun b e = record { played = (refl, sym e); only = λ standing values p. p.1 ∙ e }

pairs_next : (b : List ℕ) (e : Event) (earlier : List Event) (S R : State) → CallPairs S R e.call e.answer → PairsLead b earlier S → PairsLead b (e ∷ earlier) R
pairs_next b e earlier S R pairs before = record {
  played = (standing_in [] S, setpoints_of S, pairs.records, before.played, pairs.read, pairs.plays);
  only = λ standing values h.
      let stood = standing_from e.call e.answer.code h.0 in
      pairs_unique pairs.records stood (standing_from e.call e.answer.code (standing_in [] S)) standing (standing_in [] R) (setpoints_of S) values (setpoints_of R)
      (subst (λ (l : List StepRecord). PlaysPairs stood (setpoints_of S) l standing values) (some-injective h.2 pairs.records (sym h.4 ∙ pairs.read))
      (subst (λ (t : List ℤ). PlaysPairs stood t h.2 standing values) (before.only h.0 h.1 h.3) h.5))
      pairs.plays;
}

pairs_lead : (given : Given) (b : List ℕ) → Begins given b → (events : List Event) → Run Answers b events → PairsLead b events (state_after given events)
pairs_lead given b begun [] run = pairs_begun b (ap values_in (begins_image given b begun) ∙ values_back empty_state empty_valid)
pairs_lead given b begun (e ∷ earlier) run =
    let S = state_after given earlier in
    pairs_next b e earlier S (state_after given (e ∷ earlier))
    (call_pairs S (state_valid given earlier) (image_of S) e.call e.answer (event_facts given b begun e earlier run).agrees) (pairs_lead given b begun earlier run.1)

-- the image's values are these setpoints
pub pairs_values : (given : Given) (b : List ℕ) → Begins given b → (events : List Event) → Run Answers b events
    → (values : List ℤ) → ((standing : List Standing) × PairsPlayed b events standing values) ↔ (values ≡ values_in (image_after b events))
pairs_values given b begun events run values =
    let S = state_after given events in
    let lead = pairs_lead given b begun events run in
    let back : values_in (image_after b events) ≡ setpoints_of S = ap values_in (run_image given b begun events run) ∙ values_back S (state_valid given events) in (
      λ p. lead.only p.0 values p.1 ∙ sym back,
      λ q. (standing_in [] S, subst (PairsPlayed b events (standing_in [] S)) (sym (q ∙ back)) lead.played),
    )
