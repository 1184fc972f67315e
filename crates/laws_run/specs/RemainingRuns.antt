-- The deltas of a station after a list of calls: those that the calls accepted, less what was purged. So two stations of one origin with
-- the same remaining deltas have one image.
use Rattle.std.specs.Prelude.{◌≡◌, Bool, true, false, cond, not, List, [], ◌∷◌, ◌++◌, ℕ, length, T, eqb, ℤ}
use Rattle.std.proofs.Common.{sym, ◌∙◌, ap, ap₂, subst, inr, ⊎_elim, T_not}
use mathlib.Core.List.Memᴰ
use Rattle.std.proofs.Math.Dec.{not_T}
use Rattle.model.specs.Lists.{◌∈◌}
use Rattle.model.specs.Message.{Message, sequence_of}
use Rattle.model.specs.Order.{Origin, State, holding, purged, take_in}
use Rattle.model.specs.Image.{image_of, Valid}
use Rattle.model_runs.specs.Run.{Given, Call, delivery, purging, Event, image_after, Run, accepts?, state_next, state_after, messages_of_call, accepted_in, remaining_in, SameStation, Begins, Answers}
use Rattle.laws_order.specs.TestLaws.{Same, decide, keep_∈, ∈_keep}
use Rattle.laws_state.specs.SetLaws.{insert_from, insert_has, ascending_unique}
use Rattle.laws_state.specs.DeliverLaws.{take_in_purged, take_in_above, take_in_origin, take_in_keeps, accepts_same}
use Rattle.laws_purge.specs.PurgedFloors.{purged_after_lem, left_is, own_numbered}
use Rattle.laws_run.specs.CallRuns.{made, next_made, outcome}
use Rattle.laws_run.specs.StateRuns.{state_valid, run_image, event_facts}
use Rattle.laws_run.specs.PurgedRuns.{next_purged}

-- ---- one accepted call
-- what it leaves was there, or it brought it
made_from : (S : State) → Valid S → (c : Call) (x : Message) → x ∈ (made S c).deltas → x ∈ messages_of_call c ++ S.deltas
made_from S valid (delivery m steps) x k =
    ⊎_elim (λ t. Memᴰ.tail (subst (λ (R : State). x ∈ R.deltas) (take_in_purged m S t) k))
    (λ t. ⊎_elim (λ e. Memᴰ.head e) (λ j. Memᴰ.tail j) (insert_from m S.deltas x (subst (λ (R : State). x ∈ R.deltas) (take_in_above m S t) k)))
    (decide (purged S (sequence_of m)))
made_from S valid (purging K) x k = ((left_is S valid K x).0 k).0

-- what was there and is above the floors then stays
made_keeps : (S : State) → Valid S → (c : Call) (x : Message) → x ∈ S.deltas → T (not (purged (made S c) (sequence_of x))) → x ∈ (made S c).deltas
made_keeps S valid (delivery m steps) x k high = take_in_keeps m S x k
made_keeps S valid (purging K) x k high =
    (left_is S valid K x).1 (k, λ j. T_not (purged (made S (purging K)) (sequence_of x)) high ((purged_after_lem S valid K (sequence_of x) (own_numbered x (valid.pass x k))).1 (inr j)))

-- and what it brought is there, if it is above the floors
made_has : (S : State) → Valid S → (c : Call) → T (accepts? S c) → (x : Message) → x ∈ messages_of_call c → T (not (purged (made S c) (sequence_of x))) → x ∈ (made S c).deltas
made_has S valid (delivery m steps) t x k high = ⊎_elim here (λ j. absurd (Memᴰ.not-nil j)) (Memᴰ.cases_cons k)
  where
    here : x ≡ m → x ∈ (take_in m S).deltas
    here e =
        let above : T (not (purged S (sequence_of m))) =
        subst (λ (O : Origin). T (not (purged (holding O []) (sequence_of m)))) (take_in_origin m S) (subst (λ (y : Message). T (not (purged (take_in m S) (sequence_of y)))) e high) in
        subst (λ (R : State). x ∈ R.deltas) (sym (take_in_above m S above)) (Memᴰ.cast e (insert_has m S.deltas (accepts_same S valid m (length steps) t)))
made_has S valid (purging K) t x k high = absurd (Memᴰ.not-nil k)

-- ---- whole lists
-- what a call adds to the accepted messages, by its code
accepted_now : (e : Event) (earlier : List Event) (t : Bool) → eqb e.answer.code 0 ≡ t → accepted_in (e ∷ earlier) ≡ cond t (messages_of_call e.call ++ accepted_in earlier) (accepted_in earlier)
accepted_now e earlier t z = ap (λ (u : Bool). cond u (messages_of_call e.call ++ accepted_in earlier) (accepted_in earlier)) z

module _ (given : Given) (b : List ℕ) (begun : Begins given b) where
  set_accepted : (events : List Event) → Run Answers b events → (x : Message) → x ∈ (state_after given events).deltas → x ∈ accepted_in events
  set_accepted [] run x k = k
  set_accepted (e ∷ earlier) run x k = go (set_accepted earlier run.1 x)
    where
      S : State
      S = state_after given earlier

      go : (x ∈ S.deltas → x ∈ accepted_in earlier) → x ∈ accepted_in (e ∷ earlier)
      go ih = ⊎_elim
          (λ r. subst (λ (l : List Message). x ∈ l) (sym (accepted_now e earlier true r.0))
          (⊎_elim (Memᴰ.append_left _) (λ j. Memᴰ.append_right (messages_of_call e.call) (ih j))
          (Memᴰ.append_cases (messages_of_call e.call) (made_from S (state_valid given earlier) e.call x (subst (λ (R : State). x ∈ R.deltas) (next_made S e.call r.1) k)))))
          (λ r. subst (λ (l : List Message). x ∈ l) (sym (accepted_now e earlier false r.0)) (ih (subst (λ (R : State). x ∈ R.deltas) r.1 k)))
          (outcome S (state_after given (e ∷ earlier)) (image_of S) e.call e.answer (event_facts given b begun e earlier run).agrees)

  accepted_left : (events : List Event) → Run Answers b events → (x : Message) → x ∈ accepted_in events → T (not (purged (state_after given events) (sequence_of x))) → x ∈ (state_after given events).deltas
  accepted_left [] run x k high = k
  accepted_left (e ∷ earlier) run x k high = go (accepted_left earlier run.1 x)
    where
      S : State
      S = state_after given earlier

      -- above the floors now, it was above them before
      above : T (not (purged S (sequence_of x)))
      above = not_T (purged S (sequence_of x)) (λ t. T_not (purged (state_next S e.call) (sequence_of x)) high (next_purged S (state_valid given earlier) e.call (sequence_of x) t))

      go : (x ∈ accepted_in earlier → T (not (purged S (sequence_of x))) → x ∈ S.deltas) → x ∈ (state_next S e.call).deltas
      go ih = ⊎_elim
          (λ r. let high' = subst (λ (R : State). T (not (purged R (sequence_of x)))) (next_made S e.call r.1) high in
          subst (λ (R : State). x ∈ R.deltas) (sym (next_made S e.call r.1))
          (⊎_elim (λ j. made_has S (state_valid given earlier) e.call r.1 x j high') (λ j. made_keeps S (state_valid given earlier) e.call x (ih j above) high')
          (Memᴰ.append_cases (messages_of_call e.call) (subst (λ (l : List Message). x ∈ l) (accepted_now e earlier true r.0) k))))
          (λ r. subst (λ (R : State). x ∈ R.deltas) (sym r.1)
          (ih (subst (λ (l : List Message). x ∈ l) (accepted_now e earlier false r.0) k) above))
          (outcome S (state_after given (e ∷ earlier)) (image_of S) e.call e.answer (event_facts given b begun e earlier run).agrees)

  pub accepted_set : (events : List Event) → Run Answers b events → Same (state_after given events).deltas (remaining_in given events)
  accepted_set events run x = (
    λ k. ∈_keep above (set_accepted events run x k) ((state_valid given events).above x k),
    λ k. let r = keep_∈ above (accepted_in events) k in accepted_left events run x r.0 r.1,
  )
    where
      above : Message → Bool
      above m = not (purged (state_after given events) (sequence_of m))

-- ---- one image
origin_same : (O P : Origin) → O.floors ≡ P.floors → O.base ≡ P.base → O.block ≡ P.block → O.group ≡ P.group → O ≡ P
origin_same O P floors base block group =
    ap₂ (λ (f : List ℕ) (v : List ℤ). record { floors = f; base = v; block = O.block; group = O.group }) floors base
    ∙ ap₂ (λ (x y : ℕ). record { floors = P.floors; base = P.base; block = x; group = y }) block group

pub same_images : (given other : Given) (b c : List ℕ) → Begins given b → Begins other c → (events others : List Event)
    → Run Answers b events → Run Answers c others → SameStation given events other others → image_after b events ≡ image_after c others
same_images given other b c p q events others r t f =
    run_image given b p events r ∙ ap₂ (λ (O : Origin) (l : List Message). image_of (holding O l)) origins sets ∙ sym (run_image other c q others t)
  where
    origins : (state_after given events).origin ≡ (state_after other others).origin
    origins = origin_same (state_after given events).origin (state_after other others).origin f.floors f.base f.block f.group

    sets : (state_after given events).deltas ≡ (state_after other others).deltas
    sets = ascending_unique (state_after given events).deltas (state_after other others).deltas (state_valid given events).ascends (state_valid other others).ascends (λ m. (
      λ k. (accepted_set other c q others t m).1 ((f.remaining m).0 ((accepted_set given b p events r m).0 k)),
      λ k. (accepted_set given b p events r m).1 ((f.remaining m).1 ((accepted_set other c q others t m).0 k)),
    ))
