-- What was purged along a list of calls: it is what is at or below the floors, and it stays so.
use Rattle.std.specs.Prelude.{◌≡◌, refl, ◌⊎◌, ◌↔◌, Bool, true, false, cond, ◌&&◌, List, [], ◌∷◌, ◌++◌, ℕ, take, T, eqb}
use Rattle.std.proofs.Common.{sym, ◌∙◌, ap, subst, inl, inr, ⊎_elim}
use mathlib.Core.List.Memᴰ
use Rattle.model.specs.Lists.{◌∈◌}
use Rattle.model.specs.Message.{sequence_of, numbered}
use Rattle.model.specs.Order.{Origin, State, holding, purged, sequences_of, log_of}
use Rattle.model.specs.Image.{image_of, Valid}
use Rattle.model.specs.Calls.{Delivered}
use Rattle.model_runs.specs.Run.{Given, Call, delivery, purging, Event, Run, state_next, state_after, log_after, gone_by, purged_after, CallAgrees, Begins, Answers}
use Rattle.laws_order.specs.TestLaws.{and_l, and_r, and_i}
use Rattle.laws_order.specs.ListLaws.{take_map, ∈_take}
use Rattle.laws_state.specs.LogLaws.{log_received}
use Rattle.laws_state.specs.DeliverLaws.{take_in_origin}
use Rattle.laws_purge.specs.PurgedFloors.{purged_after_lem, purged_stays, own_numbered}
use Rattle.laws_run.specs.CallRuns.{made, next_made, next_either, outcome}
use Rattle.laws_run.specs.StateRuns.{state_valid, event_facts}

-- ---- one call
-- what one takes off the front of the log, where it is accepted
abbrev taken_by : State → Call → List ℕ
taken_by S (delivery m steps) = []
taken_by S (purging K) = sequences_of (take K (log_of S))

by_accepted : (S : State) (c : Call) (code : ℕ) → eqb code 0 ≡ true → gone_by c code (sequences_of (log_of S)) ≡ taken_by S c
by_accepted S (delivery m steps) code e = refl
by_accepted S (purging K) code e = ap (λ (t : Bool). cond t (take K (sequences_of (log_of S))) []) e ∙ take_map K sequence_of (log_of S)

by_refused : (c : Call) (code : ℕ) (log : List ℕ) → eqb code 0 ≡ false → gone_by c code log ≡ []
by_refused (delivery m steps) code log e = refl
by_refused (purging K) code log e = ap (λ (t : Bool). cond t (take K log) []) e

-- From one state to the next these sequences are purged, and no others.
record Takes (S next : State) (taken : List ℕ) : Type 0 where
  right : (s : ℕ) → s ∈ taken → T (numbered s)
  purges : (s : ℕ) → T (numbered s) → T (purged next s) ↔ (T (purged S s) ⊎ (s ∈ taken))

takes_none : (S next : State) → next.origin ≡ S.origin → Takes S next []
takes_none S next e = record {
  right = λ s k. absurd (Memᴰ.not-nil k);
  purges = λ s n. (
    λ t. inl (subst (λ (O : Origin). T (purged (holding O []) s)) e t),
    ⊎_elim (λ t. subst (λ (O : Origin). T (purged (holding O []) s)) (sym e) t) (λ k. absurd (Memᴰ.not-nil k)),
  );
}

made_takes : (S : State) → Valid S → (c : Call) → Takes S (made S c) (taken_by S c)
made_takes S valid (delivery m steps) = takes_none S (made S (delivery m steps)) (take_in_origin m S)
made_takes S valid (purging K) = record {
  right = λ s k.
      let r = Memᴰ.of_map sequence_of (take K (log_of S)) k in
      subst (λ (x : ℕ). T (numbered x)) r.2 (own_numbered r.0 (valid.pass r.0 (log_received S valid.ascends r.0 (∈_take K (log_of S) r.1))));
  purges = purged_after_lem S valid K;
}

call_takes : (S : State) → Valid S → (next : State) (b : List ℕ) (c : Call) (a : Delivered) → CallAgrees S next b c a → Takes S (state_next S c) (gone_by c a.code (sequences_of (log_of S)))
call_takes S valid next b c a agrees =
    ⊎_elim (λ r. subst (Takes S (state_next S c)) (sym (by_accepted S c a.code r.0)) (subst (λ (R : State). Takes S R (taken_by S c)) (sym (next_made S c r.1)) (made_takes S valid c)))
    (λ r. subst (Takes S (state_next S c)) (sym (by_refused c a.code (sequences_of (log_of S)) r.0)) (takes_none S (state_next S c) (ap (λ (R : State). R.origin) r.1)))
    (outcome S next b c a agrees)

-- what is purged stays so
pub next_purged : (S : State) → Valid S → (c : Call) (s : ℕ) → T (purged S s) → T (purged (state_next S c) s)
next_purged S valid c s t = next_either (λ (R : State). T (purged R s)) S c (λ a. go c) t
  where
    go : (c : Call) → T (purged (made S c) s)
    go (delivery m steps) = subst (λ (O : Origin). T (purged (holding O []) s)) (sym (take_in_origin m S)) t
    go (purging K) = purged_stays S valid K s t

-- ---- whole lists
pub purged_list : (given : Given) (b : List ℕ) → Begins given b → (events : List Event) → Run Answers b events
    → (s : ℕ) → (s ∈ purged_after given events) ↔ T (numbered s && purged (state_after given events) s)
purged_list given b begun [] run s = (λ k. absurd (Memᴰ.not-nil k), λ t. absurd (and_r (numbered s) false t))
purged_list given b begun (e ∷ earlier) run s = go (purged_list given b begun earlier run.1 s)
  where
    S : State
    S = state_after given earlier

    next : State
    next = state_after given (e ∷ earlier)

    past : List ℕ
    past = purged_after given earlier

    now : List ℕ
    now = gone_by e.call e.answer.code (log_after given earlier)

    takes : Takes S next now
    takes = call_takes S (state_valid given earlier) next (image_of S) e.call e.answer (event_facts given b begun e earlier run).agrees

    go : (s ∈ past) ↔ T (numbered s && purged S s) → (s ∈ past ++ now) ↔ T (numbered s && purged next s)
    go ih = (
      λ k. ⊎_elim
          (λ j. let t = ih.0 j in let n = and_l (numbered s) (purged S s) t in and_i (numbered s) (purged next s) n ((takes.purges s n).1 (inl (and_r (numbered s) (purged S s) t))))
          (λ j. let n = takes.right s j in and_i (numbered s) (purged next s) n ((takes.purges s n).1 (inr j)))
          (Memᴰ.append_cases past k),
      λ t. let n = and_l (numbered s) (purged next s) t in
          ⊎_elim (λ p. Memᴰ.append_left _ (ih.1 (and_i (numbered s) (purged S s) n p))) (λ j. Memᴰ.append_right past j)
          ((takes.purges s n).0 (and_r (numbered s) (purged next s) t)),
    )
