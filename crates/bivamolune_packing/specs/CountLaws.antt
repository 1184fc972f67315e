-- A delivery has at most 64 undos and 64 executions, so that its answer fits one number.
use Rattle.std.specs.Prelude.{◌≡◌, refl, List, ℕ, zero, suc, ◌≤◌, length, T}
use Rattle.std.proofs.Common.{sym, ap, subst, arith}
use Rattle.std.proofs.lemmas.List.{length-map}
use Rattle.model.specs.Layout.{capacity}
use Rattle.model.specs.Message.{Message, sequence_of}
use Rattle.model.specs.Order.{State, sequences_of, log_of}
use Rattle.model.specs.Image.{image_of, Valid, state_in, is_image}
use Rattle.model.specs.Codes.{deliver_conditions}
use Rattle.model.specs.Calls.{Delivered, deliver_answer, deliver_code, deliver}
use Rattle.model.specs.PlainStation.{receive}
use Rattle.model_runs.specs.Run.{delivery, CallAgrees}
use Rattle.laws_state.specs.LogLaws.{log_length}
use Rattle.laws_state.specs.ImageLaws.{image_own, own_valid}
use Rattle.laws_state.specs.DeliverLaws.{receive_valid}
use Rattle.laws_run.specs.CallRuns.{call_facts}
use Rattle.laws_codes.specs.Ladder.{all_free, not_not}

pub record Counted (d : Delivered) : Type 0 where
  pub undos : d.undos ≤ capacity
  pub executions : d.executions ≤ capacity

-- what is accepted is an image
accepted_image : (b : List ℕ) (m : Message) (room : ℕ) → deliver_code b m room ≡ 0 → T (is_image b)
unfolding deliver_code
accepted_image b m room e = not_not (is_image b) (all_free (deliver_conditions b m room) (omega arith) e).1.0

names_few : (S : State) → Valid S → length (sequences_of (log_of S)) ≤ capacity
names_few S v = omega (arith, length-map (log_of S) sequence_of, log_length S v.ascends, v.fits)

accepted_counts : (b : List ℕ) (m : Message) (steps : List ℕ) → T (is_image b) → Counted (deliver b m steps)
accepted_counts b m steps image = record {
  undos = omega (arith, facts.undos, names_few S valid);
  executions = omega (arith, facts.executions, names_few (receive S m (length steps)) (receive_valid S valid m (length steps)));
}
  where
    S : State
    S = state_in b

    valid : Valid S
    valid = own_valid b image

    is : b ≡ image_of S
    is = image_own b image

    facts : CallAgrees S (receive S m (length steps)) (image_of S) (delivery m steps) (deliver b m steps)
    facts = (call_facts S valid (delivery m steps) (deliver b m steps) (ap (λ (i : List ℕ). deliver i m steps) is)).agrees

refused_is : (b : List ℕ) (m : Message) (steps : List ℕ) (n : ℕ) → deliver_code b m (length steps) ≡ suc n
    → deliver b m steps ≡ record { code = suc n; undos = 0; executions = 0; image = b; steps = steps }
unfolding deliver
refused_is b m steps n e = ap (λ (k : ℕ). deliver_answer k (state_in b) b m steps) e

pub deliver_counted : (b : List ℕ) (m : Message) (steps : List ℕ) → Counted (deliver b m steps)
deliver_counted b m steps = go (deliver_code b m (length steps)) refl
  where
    go : (n : ℕ) → deliver_code b m (length steps) ≡ n → Counted (deliver b m steps)
    go zero e = accepted_counts b m steps (accepted_image b m (length steps) e)
    go (suc n) e = subst Counted (sym (refused_is b m steps n e)) (record { undos = omega arith; executions = omega arith })
