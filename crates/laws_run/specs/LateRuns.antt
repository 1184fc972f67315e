-- Along whole lists: whatever calls come, and however many, what they find in the log and do not purge is in the log after them, in the same
-- order, with the same effective blocks and the same keys.
use Rattle.std.specs.Prelude.{◌≡◌, refl, Bool, not, List, [], ◌∷◌, ◌++◌, ℕ, take, drop, T}
use Rattle.std.proofs.Common.{sym, ◌∙◌, ap, subst, ⊎_elim, inr, take-append-drop, T_not}
use mathlib.Core.List.Memᴰ
use Rattle.std.proofs.Math.Dec.{not_T}
use Rattle.model.specs.Lists.{◌∈◌, has, keep}
use Rattle.model.specs.Message.{Message, sequence_of}
use Rattle.model.specs.Order.{Origin, State, holding, purged, sequences_of, effective_block, key_of, log_of}
use Rattle.model.specs.Purge.{purge_first}
use Rattle.model.specs.Image.{image_of, state_in, log_in, Valid}
use Rattle.model_runs.specs.Run.{Given, Call, delivery, purging, Event, state_next, state_after}
use Rattle.laws_order.specs.TestLaws.{has→∈, ∈→has, keep_∈, ∈_keep}
use Rattle.laws_order.specs.KeepLaws.{keep_all, keep_drop, keep_swap, keep_stronger}
use Rattle.laws_order.specs.ListLaws.{∈_drop, ∈_take}
use Rattle.laws_state.specs.LogLaws.{log_received}
use Rattle.laws_state.specs.EffectiveLaws.{blocks_agree, keys_agree}
use Rattle.laws_state.specs.LateLaws.{late_log}
use Rattle.laws_state.specs.ImageLaws.{state_back, log_back}
use Rattle.laws_purge.specs.PurgedFloors.{purged_after_lem, own_numbered}
use Rattle.laws_purge.specs.PurgedBlocks.{rest_left, effective_stays, key_stays}
use Rattle.laws_purge.specs.PurgeLaws.{purge_log}
use Rattle.laws_run.specs.CallRuns.{next_valid, next_made, next_either, delivery_origin, delivery_keeps}
use Rattle.laws_run.specs.StateRuns.{state_valid}
use Rattle.laws_run.specs.PurgedRuns.{next_purged}

-- From a state S with this old log to a later state R with this new one: the old log, without what is purged in R, is the new one with the others
-- left out; effective blocks and keys stay.
pub record Later (S R : State) (old new : List Message) : Type 0 where
  pub log : keep (λ m. has (sequence_of m) (sequences_of old)) new ≡ keep (λ m. not (purged R (sequence_of m))) old
  pub keys : (m : Message) → m ∈ old → T (not (purged R (sequence_of m))) → (effective_block R m ≡ effective_block S m) × (key_of R m ≡ key_of S m)

-- of states and their own logs
abbrev LaterStates : State → State → Type 0
LaterStates S R = Later S R (log_of S) (log_of R)

-- no delta of a log was purged
above : (S : State) → Valid S → (m : Message) → m ∈ log_of S → T (not (purged S (sequence_of m)))
above S v m k = v.above m (log_received S v.ascends m k)

-- ---- more received, at the same origin
grows_later : (S R : State) → Valid S → Valid R → S.origin ≡ R.origin → ((x : Message) → x ∈ S.deltas → x ∈ R.deltas) → LaterStates S R
grows_later S R v w origin more = record {
  log = late_log S R origin v.ascends w.ascends more ∙ sym (keep_all (λ m. not (purged R (sequence_of m))) (log_of S) stays);
  keys = λ m k t. (blocks_agree S R origin v.ascends w.ascends more m k, keys_agree S R origin v.ascends w.ascends more m k);
}
  where
    stays : (m : Message) → m ∈ log_of S → T (not (purged R (sequence_of m)))
    stays m k = subst (λ (O : Origin). T (not (purged (holding O []) (sequence_of m)))) origin (above S v m k)

same_later : (S : State) → Valid S → LaterStates S S
same_later S v = grows_later S S v v refl (λ x k. k)

-- ---- a purge
module _ (S : State) (v : Valid S) (K : ℕ) (w : Valid (purge_first K S)) where
  first_purged : (m : Message) → m ∈ take K (log_of S) → T (purged (purge_first K S) (sequence_of m))
  first_purged m k =
      let received = log_received S v.ascends m (∈_take K (log_of S) k) in
      (purged_after_lem S v K (sequence_of m) (own_numbered m (v.pass m received))).1 (inr (Memᴰ.map sequence_of k))

  rest_above : (m : Message) → m ∈ drop K (log_of S) → T (not (purged (purge_first K S) (sequence_of m)))
  rest_above m k = w.above m (rest_left S v K m k)

  purge_later : LaterStates S (purge_first K S)
  purge_later = record {
    log = ap (keep (λ m. has (sequence_of m) (sequences_of (log_of S)))) (purge_log S v K)
        ∙ keep_all (λ m. has (sequence_of m) (sequences_of (log_of S))) (drop K (log_of S)) (λ m k. ∈→has (Memᴰ.map sequence_of (∈_drop K (log_of S) k)))
        ∙ sym (keep_drop (λ m. not (purged (purge_first K S) (sequence_of m))) K (log_of S)
        (λ m k. not_T (not (purged (purge_first K S) (sequence_of m))) (λ t. T_not (purged (purge_first K S) (sequence_of m)) t (first_purged m k))) rest_above);
    keys = λ m k t. let j = left m k t in (effective_stays S v K m j, key_stays S v K m j);
  }
    where
      left : (m : Message) → m ∈ log_of S → T (not (purged (purge_first K S) (sequence_of m))) → m ∈ drop K (log_of S)
      left m k t = ⊎_elim (λ j. absurd (T_not (purged (purge_first K S) (sequence_of m)) t (first_purged m j))) (λ j. j)
          (Memᴰ.append_cases (take K (log_of S)) (subst (λ (l : List Message). m ∈ l) (sym (take-append-drop K (log_of S))) k))

-- ---- any call
next_later : (S : State) → Valid S → (c : Call) → LaterStates S (state_next S c)
next_later S v (delivery m steps) =
    grows_later S (state_next S (delivery m steps)) v (next_valid S v (delivery m steps)) (sym (delivery_origin S m steps)) (delivery_keeps S m steps)
next_later S v (purging K) =
    next_either (LaterStates S) S (purging K) (λ t. purge_later S v K (subst Valid (next_made S (purging K) t) (next_valid S v (purging K)))) (same_later S v)

-- ---- one after the other, where what is purged stays so
module _ (S R Q : State) (w : Valid Q) (a : LaterStates S R) (b : LaterStates R Q) (up : (s : ℕ) → T (purged R s) → T (purged Q s)) where
  was_above : (s : ℕ) → T (not (purged Q s)) → T (not (purged R s))
  was_above s t = not_T (purged R s) (λ p. T_not (purged Q s) t (up s p))

  -- what was in the first log and is not purged was in the second
  between : (m : Message) → m ∈ log_of S → T (not (purged R (sequence_of m))) → m ∈ log_of R
  between m k t =
      (keep_∈ (λ x. has (sequence_of x) (sequences_of (log_of S))) (log_of R)
      (subst (λ (l : List Message). m ∈ l) (sym a.log) (∈_keep (λ x. not (purged R (sequence_of x))) k t))).0

  listed_between : (m : Message) → m ∈ log_of Q → T (has (sequence_of m) (sequences_of (log_of S))) → T (has (sequence_of m) (sequences_of (log_of R)))
  listed_between m k t =
      let r = Memᴰ.of_map sequence_of (log_of S) (has→∈ (sequence_of m) (sequences_of (log_of S)) t) in
      let high : T (not (purged R (sequence_of r.0))) = subst (λ (s : ℕ). T (not (purged R s))) (sym r.2) (was_above (sequence_of m) (above Q w m k)) in
      ∈→has (Memᴰ.cast (sym r.2) (Memᴰ.map sequence_of (between r.0 r.1 high)))

  then_later : LaterStates S Q
  then_later = record {
    log = sym (keep_stronger of_s of_r (log_of Q) listed_between) ∙ ap (keep of_s) b.log ∙ keep_swap of_s above_q (log_of R) ∙ ap (keep above_q) a.log
        ∙ keep_stronger above_q (λ m. not (purged R (sequence_of m))) (log_of S) (λ m k. was_above (sequence_of m));
    keys = λ m k t.
        let high = was_above (sequence_of m) t in
        let p = a.keys m k high in let q = b.keys m (between m k high) t in
        (q.0 ∙ p.0, q.1 ∙ p.1);
  }
    where
      of_s : Message → Bool
      of_s m = has (sequence_of m) (sequences_of (log_of S))

      of_r : Message → Bool
      of_r m = has (sequence_of m) (sequences_of (log_of R))

      above_q : Message → Bool
      above_q m = not (purged Q (sequence_of m))

-- ---- whole lists
run_later : (given : Given) (later events : List Event) → LaterStates (state_after given events) (state_after given (later ++ events))
run_later given [] events = same_later (state_after given events) (state_valid given events)
run_later given (e ∷ later) events =
    let R = state_after given (later ++ events) in
    let v = state_valid given (later ++ events) in
    then_later (state_after given events) R (state_next R e.call) (next_valid R v e.call) (run_later given later events) (next_later R v e.call) (next_purged R v e.call)

-- of the images
pub later_images : (given : Given) (later events : List Event) (b c : List ℕ) → b ≡ image_of (state_after given events) → c ≡ image_of (state_after given (later ++ events))
    → Later (state_in b) (state_in c) (log_in b) (log_in c)
later_images given later events b c p q =
    subst (λ (x : List ℕ). Later (state_in x) (state_in c) (log_in x) (log_in c)) (sym p)
    (subst (λ (y : List ℕ). Later (state_in (image_of S)) (state_in y) (log_in (image_of S)) (log_in y)) (sym q)
    (subst (λ (X : State). Later X (state_in (image_of R)) (log_in (image_of S)) (log_in (image_of R))) (sym (state_back S v))
    (subst (λ (Y : State). Later S Y (log_in (image_of S)) (log_in (image_of R))) (sym (state_back R w))
    (subst (λ (l : List Message). Later S R l (log_in (image_of R))) (sym (log_back S v))
    (subst (λ (l : List Message). Later S R (log_of S) l) (sym (log_back R w)) (run_later given later events))))))
  where
    S : State
    S = state_after given events

    R : State
    R = state_after given (later ++ events)

    v : Valid S
    v = state_valid given events

    w : Valid R
    w = state_valid given (later ++ events)
