-- One call of the definitions on the image of a valid state: what demand 3 says of it, and that it leaves the image of the plain
-- station's next state, which is valid.
use Rattle.std.specs.Prelude.{◌≡◌, refl, ◌⊎◌, ◌↔◌, Bool, true, false, cond, List, [], ◌++◌, ℕ, zero, suc, ◌≤◌, length, drop, T, eqb, ℤ}
use Rattle.std.proofs.Common.{sym, ◌∙◌, ap, subst, inl, inr, ⊎_elim, arith, suc-ne-zero, eqb→eq, T_not}
use Rattle.std.proofs.Math.Option.{some}
use Rattle.model.specs.Lists.{◌∈◌}
use Rattle.model.specs.Message.{Message}
use Rattle.model.specs.Order.{State, take_in, sequences_of, log_of}
use Rattle.model.specs.Setpoints.{start_values}
use Rattle.model.specs.Purge.{purge_first}
use Rattle.model.specs.Image.{image_of, Valid}
use Rattle.model.specs.Steps.{undos_of, executions_of, StepRecord, records_of, records_between, records_bytes, read_records}
use Rattle.model.specs.Calls.{Delivered, deliver_answer, purge_answer}
use Rattle.model.specs.PlainStation.{receive, receive_purge}
use Rattle.model_runs.specs.Run.{Call, delivery, purging, without_steps, accepts?, state_next, old_log, code_for, records_read, CallAgrees, Answers}
use Rattle.laws_order.specs.TestLaws.{false_of, decide}
use Rattle.laws_order.specs.StepLaws.{steps_fewest, steps_counted, undos_self}
use Rattle.laws_wire.specs.RecordLaws.{records_counted, records_self}
use Rattle.laws_origin.specs.OriginLaws.{start_same}
use Rattle.laws_state.specs.LateLaws.{late_sequences}
use Rattle.laws_state.specs.RecordRange.{records_back}
use Rattle.laws_state.specs.DeliverLaws.{state_code, deliver_code_is, deliver_is, code_zero, receive_refused, receive_accepted, take_in_origin, take_in_keeps, take_in_valid, receive_valid}
use Rattle.laws_purge.specs.PurgeLaws.{purge_log}
use Rattle.laws_purge.specs.PurgeCodes.{state_purge_code, purge_code_is, purge_is, purge_code_zero, receive_purge_refused, receive_purge_accepted, receive_purge_valid}
use Rattle.laws_run.specs.LateCalls.{LeftOut, order_back, again_back, none_left_out}

-- after the call the plain station's state is `next`
pub record CallFacts (S next : State) (c : Call) (a : Delivered) : Type 0 where
  pub agrees : CallAgrees S next (image_of S) c a
  pub image : a.image ≡ image_of next

-- ---- no step, where the log that the steps are played from is the next one
stepless : (S next : State) → Valid S → Valid next → (c : Call) (code : ℕ) (image steps : List ℕ) → ((code ≡ 0) ↔ T (accepts? S c)) → code ≡ code_for (image_of S) c
    → old_log S c code ≡ log_of next → image ≡ image_of next → CallFacts S next c (record { code = code; undos = 0; executions = 0; image = image; steps = steps })
stepless S next v w c code image steps accepted lowest same is = record {
  agrees = record {
    accepted = accepted;
    code = lowest;
    undos = none ∙ ap (λ (old : List Message). undos_of (sequences_of old) new) (sym same);
    executions = none ∙ ap (λ (old : List Message). executions_of (sequences_of old) new) (sym same);
    fewest = λ rival plays. omega arith;
    records = records;
    order = order_back S next v w c answer is left;
    again = again_back S next w c answer records left;
  };
  image = is;
}
  where
    answer : Delivered
    answer = record { code = code; undos = 0; executions = 0; image = image; steps = steps }

    new : List ℕ
    new = sequences_of (log_of next)

    none : 0 ≡ undos_of new new
    none = sym (undos_self new)

    records : records_read answer ≡ some (records_of (start_values next) (old_log S c code) (log_of next))
    records = ap some (sym (records_self (start_values next) (log_of next)) ∙ ap (λ (old : List Message). records_of (start_values next) old (log_of next)) (sym same))

    left : LeftOut S next c code
    left = none_left_out S next c code same

-- ---- a delivery
module _ (S : State) (valid : Valid S) (m : Message) (steps : List ℕ) where
  code_is : (n : ℕ) → state_code S m (length steps) ≡ n → n ≡ code_for (image_of S) (delivery m steps)
  code_is n e = sym e ∙ sym (deliver_code_is S valid m (length steps))

  accepted_facts : state_code S m (length steps) ≡ 0 → CallFacts S (take_in m S) (delivery m steps) (deliver_answer 0 S (image_of S) m steps)
  accepted_facts e = record {
    agrees = record {
      accepted = (λ z. (code_zero S m (length steps)).0 e, λ t. refl);
      code = code_is 0 e;
      undos = refl;
      executions = refl;
      fewest = λ rival plays.
          let old = sequences_of (log_of S) in let new = sequences_of (log_of (take_in m S)) in
          subst (λ (n : ℕ). n ≤ length rival) (steps_counted old new) (steps_fewest old new rival plays);
      records = records;
      order = order_back S (take_in m S) valid next (delivery m steps) (deliver_answer 0 S (image_of S) m steps) refl late;
      again = again_back S (take_in m S) next (delivery m steps) (deliver_answer 0 S (image_of S) m steps) records late;
    };
    image = refl;
  }
    where
      next : Valid (take_in m S)
      next = take_in_valid S valid m (length steps) ((code_zero S m (length steps)).0 e)

      late : LeftOut S (take_in m S) (delivery m steps) 0
      late = late_sequences S (take_in m S) (sym (take_in_origin m S)) valid.ascends next.ascends (take_in_keeps m S)

      made : List StepRecord
      made = records_between S (take_in m S)

      behind : List ℕ
      behind = drop (length (records_bytes made)) steps

      records : records_read (deliver_answer 0 S (image_of S) m steps) ≡ some (records_of (start_values (take_in m S)) (log_of S) (log_of (take_in m S)))
      records = subst (λ (n : ℕ). read_records n (records_bytes made ++ behind) ≡ some made) (records_counted (start_values S) (log_of S) (log_of (take_in m S)))
          (records_back S (take_in m S) valid next behind)
          ∙ ap (λ (v : List ℤ). some (records_of v (log_of S) (log_of (take_in m S)))) (start_same S (take_in m S) (sym (take_in_origin m S)))

  refused_facts : (n : ℕ) → state_code S m (length steps) ≡ suc n → CallFacts S S (delivery m steps) (deliver_answer (suc n) S (image_of S) m steps)
  refused_facts n e = stepless S S valid valid (delivery m steps) (suc n) (image_of S) steps
      (λ z. absurd (suc-ne-zero n z), λ t. absurd (suc-ne-zero n (sym e ∙ (code_zero S m (length steps)).1 t))) (code_is (suc n) e) refl refl

  answer_facts : (n : ℕ) → state_code S m (length steps) ≡ n
      → CallFacts S (receive S m (length steps)) (delivery m steps) (deliver_answer n S (image_of S) m steps)
  answer_facts zero e =
      subst (λ (R : State). CallFacts S R (delivery m steps) (deliver_answer 0 S (image_of S) m steps)) (sym (receive_accepted S m (length steps) e)) (accepted_facts e)
  answer_facts (suc n) e =
      subst (λ (R : State). CallFacts S R (delivery m steps) (deliver_answer (suc n) S (image_of S) m steps))
      (sym (receive_refused S m (length steps) (λ z. suc-ne-zero n (sym e ∙ z)))) (refused_facts n e)

-- ---- a purge
not_zero : (n : ℕ) → ¬ (n ≡ 0) → eqb n 0 ≡ false
not_zero n h = false_of (eqb n 0) (λ t. h (eqb→eq n 0 t))

module _ (S : State) (valid : Valid S) (K : ℕ) where
  purge_facts : (n : ℕ) → state_purge_code S K ≡ n → CallFacts S (receive_purge S K) (purging K) (without_steps (purge_answer n S (image_of S) K))
  purge_facts zero e =
      let next = receive_purge_accepted S K e in
      subst (λ (R : State). CallFacts S R (purging K) (without_steps (purge_answer 0 S (image_of S) K))) (sym next)
      (stepless S (purge_first K S) valid (subst Valid next (receive_purge_valid S valid K)) (purging K) 0 (image_of (purge_first K S)) []
      (λ z. (purge_code_zero S K).0 e, λ t. refl) (sym e ∙ sym (purge_code_is S valid K)) (sym (purge_log S valid K)) refl)
  purge_facts (suc n) e =
      subst (λ (R : State). CallFacts S R (purging K) (without_steps (purge_answer (suc n) S (image_of S) K))) (sym (receive_purge_refused S K (λ z. suc-ne-zero n (sym e ∙ z))))
      (stepless S S valid valid (purging K) (suc n) (image_of S) []
      (λ z. absurd (suc-ne-zero n z), λ t. absurd (suc-ne-zero n (sym e ∙ (purge_code_zero S K).1 t))) (sym e ∙ sym (purge_code_is S valid K))
      (ap (λ (t : Bool). cond t (drop K (log_of S)) (log_of S)) (not_zero (suc n) (suc-ne-zero n))) refl)

-- ---- any call
pub call_facts : (S : State) → Valid S → (c : Call) (a : Delivered) → Answers (image_of S) c a → CallFacts S (state_next S c) c a
call_facts S valid (delivery m steps) a h =
    subst (CallFacts S (receive S m (length steps)) (delivery m steps)) (sym (h ∙ deliver_is S valid m steps)) (answer_facts S valid m steps (state_code S m (length steps)) refl)
call_facts S valid (purging K) a h =
    subst (CallFacts S (receive_purge S K) (purging K)) (sym (h ∙ ap without_steps (purge_is S valid K))) (purge_facts S valid K (state_purge_code S K) refl)

pub next_valid : (S : State) → Valid S → (c : Call) → Valid (state_next S c)
next_valid S valid (delivery m steps) = receive_valid S valid m (length steps)
next_valid S valid (purging K) = receive_purge_valid S valid K

-- ---- accepted or refused
-- what an accepted call makes of a state
abbrev pub made : State → Call → State
made S (delivery m steps) = take_in m S
made S (purging K) = purge_first K S

pub next_made : (S : State) (c : Call) → T (accepts? S c) → state_next S c ≡ made S c
next_made S (delivery m steps) t = receive_accepted S m (length steps) ((code_zero S m (length steps)).1 t)
next_made S (purging K) t = receive_purge_accepted S K ((purge_code_zero S K).1 t)

next_refused : (S : State) (c : Call) → ¬ T (accepts? S c) → state_next S c ≡ S
next_refused S (delivery m steps) h = receive_refused S m (length steps) (λ e. h ((code_zero S m (length steps)).0 e))
next_refused S (purging K) h = receive_purge_refused S K (λ e. h ((purge_code_zero S K).0 e))

-- what holds of both states holds of the next one
pub next_either : (P : State → Type 0) (S : State) (c : Call) → (T (accepts? S c) → P (made S c)) → P S → P (state_next S c)
next_either P S c f p =
    ⊎_elim (λ t. subst P (sym (next_made S c t)) (f t)) (λ h. subst P (sym (next_refused S c (T_not (accepts? S c) h))) p) (decide (accepts? S c))

-- no delivery moves the origin or loses a delta
pub delivery_origin : (S : State) (m : Message) (steps : List ℕ) → (state_next S (delivery m steps)).origin ≡ S.origin
delivery_origin S m steps = next_either (λ (R : State). R.origin ≡ S.origin) S (delivery m steps) (λ t. take_in_origin m S) refl

pub delivery_keeps : (S : State) (m : Message) (steps : List ℕ) (x : Message) → x ∈ S.deltas → x ∈ (state_next S (delivery m steps)).deltas
delivery_keeps S m steps x k = next_either (λ (R : State). x ∈ R.deltas) S (delivery m steps) (λ t. take_in_keeps m S x k) k

-- by its code, the test for 0: it was accepted, or left the state as it was
pub outcome : (S next : State) (b : List ℕ) (c : Call) (a : Delivered) → CallAgrees S next b c a
    → ((eqb a.code 0 ≡ true) × T (accepts? S c)) ⊎ ((eqb a.code 0 ≡ false) × (state_next S c ≡ S))
outcome S next b c a agrees =
    ⊎_elim (λ t. inl (ap (λ (n : ℕ). eqb n 0) (agrees.accepted.1 t), t))
    (λ f. inr (not_zero a.code (λ z. T_not (accepts? S c) f (agrees.accepted.0 z)), next_refused S c (T_not (accepts? S c) f)))
    (decide (accepts? S c))
