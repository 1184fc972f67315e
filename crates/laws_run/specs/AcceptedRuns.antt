-- Lists of deliveries alone: nothing is purged along them, so that what remains is what was accepted, and the promise of equal images to
-- stations that agree is document 01's, to equal accepted sets.
use Rattle.std.specs.Prelude.{◌≡◌, refl, not, List, [], ◌∷◌, ℕ, T}
use Rattle.std.proofs.Common.{sym, ◌∙◌, ap, subst}
use Rattle.model.specs.Lists.{◌∈◌, keep}
use Rattle.model.specs.Message.{Message, sequence_of}
use Rattle.model.specs.Order.{Origin, first_origin, State, holding, purged}
use Rattle.model.specs.Calls.{Delivered}
use Rattle.model_runs.specs.Run.{Given, Call, delivery, purging, is_delivery, Event, state_next, state_after, accepted_in, remaining_in, deliveries, Agreement, EqualAccepted}
use Rattle.laws_order.specs.TestLaws.{and_l, and_r}
use Rattle.laws_run.specs.CallRuns.{delivery_origin}

next_origin : (S : State) (c : Call) → T (is_delivery c) → (state_next S c).origin ≡ S.origin
next_origin S (delivery m steps) t = delivery_origin S m steps
next_origin S (purging K) t = absurd t

pub state_origin : (given : Given) (events : List Event) → T (deliveries events) → (state_after given events).origin ≡ first_origin
state_origin given [] t = refl
state_origin given (e ∷ earlier) t =
    next_origin (state_after given earlier) e.call (and_l (is_delivery e.call) (deliveries earlier) t)
    ∙ state_origin given earlier (and_r (is_delivery e.call) (deliveries earlier) t)

-- without a floor all remains
above_none : (l : List Message) → keep (λ m. not (purged (holding first_origin []) (sequence_of m))) l ≡ l
above_none [] = refl
above_none (m ∷ l) = ap (λ (r : List Message). m ∷ r) (above_none l)

all_remain : (given : Given) (events : List Event) → T (deliveries events) → remaining_in given events ≡ accepted_in events
all_remain given events t =
    ap (λ (O : Origin). keep (λ m. not (purged (holding O []) (sequence_of m))) (accepted_in events)) (state_origin given events t) ∙ above_none (accepted_in events)

pub equal_accepted : (begins : Given → List ℕ → Type 0) (answers : List ℕ → Call → Delivered → Type 0) → Agreement begins answers → EqualAccepted begins answers
equal_accepted begins answers agrees given other b c p q events others t u r s same = agrees.equal given other b c p q events others r s (record {
  floors = ap (λ (O : Origin). O.floors) origins;
  base = ap (λ (O : Origin). O.base) origins;
  block = ap (λ (O : Origin). O.block) origins;
  group = ap (λ (O : Origin). O.group) origins;
  remaining = λ m. (
    λ k. subst (λ (l : List Message). m ∈ l) (sym (all_remain other others u)) ((same.accepted m).0 (subst (λ (l : List Message). m ∈ l) (all_remain given events t) k)),
    λ k. subst (λ (l : List Message). m ∈ l) (sym (all_remain given events t)) ((same.accepted m).1 (subst (λ (l : List Message). m ∈ l) (all_remain other others u) k)),
  );
})
  where
    origins : (state_after given events).origin ≡ (state_after other others).origin
    origins = state_origin given events t ∙ sym (state_origin other others u)
