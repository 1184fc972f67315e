-- Demand 2 after every call: `OrderKept` holds of the definitions' own calls.
use Rattle.std.specs.Prelude.{◌≡◌, ◌↔◌, List, [], ◌∷◌, ◌++◌, take}
use Rattle.std.proofs.Common.{sym, ◌∙◌, ap, subst}
use mathlib.Core.List.Memᴰ
use Rattle.model.specs.Lists.{◌∈◌}
use Rattle.model.specs.Message.{Message, sequence_of}
use Rattle.model.specs.Order.{State, Ascending, MeetsRing, Executable, Grounded, IsLog, sequences_of, log_of, held_of}
use Rattle.model.specs.Image.{image_of, Valid, log_in, held_in}
use Rattle.model_runs.specs.Run.{Given, Call, delivery, purging, Event, state_after, Begins, Answers}
use Rattle.model_runs.specs.RunOrder.{received_in, InOrder, OrderKept}
use Rattle.laws_order.specs.TestLaws.{Same}
use Rattle.laws_order.specs.ListLaws.{∈_take}
use Rattle.laws_state.specs.SetLaws.{ascending_names}
use Rattle.laws_state.specs.LogLaws.{log_is, log_received, log_executable, log_grounded, held_is, held_executable, held_ascends, ring_stays, ring_held}
use Rattle.laws_state.specs.DeliverLaws.{take_in_origin, take_in_keeps}
use Rattle.laws_state.specs.ImageLaws.{log_back, held_back}
use Rattle.laws_purge.specs.PurgedFloors.{left_is}
use Rattle.laws_purge.specs.PurgedRings.{purge_ring}
use Rattle.laws_run.specs.CallRuns.{made, next_either}
use Rattle.laws_run.specs.StateRuns.{state_valid, run_image, run_before}
use Rattle.laws_run.specs.RemainingRuns.{accepted_set}

-- ---- the image of a valid state is in order
pub image_in_order : (S : State) → Valid S → (received : List Message) → Same S.deltas received → InOrder received S (image_of S)
image_in_order S valid received same = record {
  deltas = same;
  first = subst (IsLog S) (sym log) (log_is S valid.ascends);
  executed = λ m k. subst (λ (l : List Message). (m ∈ l) ↔ Executable S m) (sym log) (log_executable S valid.ascends m ((same m).1 k));
  grounded = λ m k. subst (λ (l : List Message). (m ∈ l) ↔ Grounded S m) (sym log) (log_grounded S valid.ascends m ((same m).1 k));
  held = λ m. subst (λ (l : List Message). (m ∈ l) ↔ ((m ∈ received) × ¬ Executable S m)) (sym held) (
    λ k. let h = (held_executable S valid.ascends m).0 k in ((same m).0 h.0, h.1),
    λ r. (held_executable S valid.ascends m).1 ((same m).1 r.0, r.1),
  );
  held_ascend = subst Ascending (sym held) (held_ascends S valid.ascends);
}
  where
    log : log_in (image_of S) ≡ log_of S
    log = log_back S valid

    held : held_in (image_of S) ≡ held_of S
    held = held_back S valid

-- ---- what meets a ring stays, and still meets it: no purge drops it, since it is held
abbrev InRing : State → Message → Type 0
InRing S m = (m ∈ S.deltas) × MeetsRing S m

made_ring : (S : State) → Valid S → (c : Call) (m : Message) → InRing S m → InRing (made S c) m
made_ring S valid (delivery d steps) m r = (take_in_keeps d S m r.0, ring_stays S (made S (delivery d steps)) (sym (take_in_origin d S)) (take_in_keeps d S) m r.1)
made_ring S valid (purging K) m r = ((left_is S valid K m).1 (r.0, kept), purge_ring S valid K m r.0 r.1)
  where
    kept : sequence_of m ∈ sequences_of (take K (log_of S)) → ⊥
    kept k =
        let d = Memᴰ.of_map sequence_of (take K (log_of S)) k in
        let logged : d.0 ∈ log_of S = ∈_take K (log_of S) d.1 in
        let same : m ≡ d.0 = ascending_names S.deltas valid.ascends m d.0 r.0 (log_received S valid.ascends d.0 logged) (sym d.2) in
        ((held_is S valid.ascends m).0 (ring_held S valid.ascends m r.0 r.1)).1 (Memᴰ.cast same logged)

state_ring : (given : Given) (later events : List Event) (m : Message) → InRing (state_after given events) m → InRing (state_after given (later ++ events)) m
state_ring given [] events m r = r
state_ring given (e ∷ later) events m r =
    let S = state_after given (later ++ events) in
    let before = state_ring given later events m r in
    next_either (λ (R : State). InRing R m) S e.call (λ t. made_ring S (state_valid given (later ++ events)) e.call m before) before

-- ---- the theorem
pub order_kept : OrderKept Begins Answers
order_kept = record {
  in_order = λ given b begun events run. subst (InOrder (received_in given events) (state_after given events)) (sym (run_image given b begun events run))
      (image_in_order (state_after given events) (state_valid given events) (received_in given events) (accepted_set given b begun events run));
  ring_held = λ given b begun later events run m k ring.
      let all : List Event = later ++ events in
      let r = state_ring given later events m ((accepted_set given b begun events (run_before Answers b later events run) m).1 k, ring) in
      subst (λ (l : List Message). m ∈ l) (sym (ap held_in (run_image given b begun all run) ∙ held_back (state_after given all) (state_valid given all)))
      (ring_held (state_after given all) (state_valid given all).ascends m r.0 r.1);
}
