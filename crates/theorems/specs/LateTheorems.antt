-- The laws of late arrivals (document 02, Paper 5), of the definitions.
use Rattle.std.specs.Prelude.{◌≡◌, refl, List, ℕ, length, T}
use Rattle.std.proofs.Common.{sym, ◌∙◌, ap, subst}
use Rattle.model.specs.Lists.{◌∈◌, has, keep}
use Rattle.model.specs.Message.{Message, sequence_of}
use Rattle.model.specs.Order.{State, sequences_of, effective_block, key_of, log_of}
use Rattle.model.specs.Image.{Valid, image_of, state_in, log_in, is_image}
use Rattle.model.specs.Calls.{deliver}
use Rattle.model.specs.PlainStation.{receive}
use Rattle.model_runs.specs.SameOrder.{SameOrder}
use Rattle.model_runs.specs.Run.{delivery}
use Rattle.laws_state.specs.EffectiveLaws.{blocks_agree, keys_agree}
use Rattle.laws_state.specs.LateLaws.{late_log, late_sequences}
use Rattle.laws_state.specs.ImageLaws.{log_back, image_own, own_valid}
use Rattle.laws_run.specs.SameOrderLaws.{left_out_order}
use Rattle.laws_run.specs.CallRuns.{call_facts, next_valid, delivery_origin, delivery_keeps}

-- From a state to one that has received all that it has, and maybe more, at the same origin.
pub record LateLaw (S R : State) : Type 0 where
  -- The log before is the one after, less what was not in it before.
  pub log : keep (λ m. has (sequence_of m) (sequences_of (log_of S))) (log_of R) ≡ log_of S
  -- "two deltas that were both in the log before still stand in the same order to each other"
  pub order : SameOrder (sequences_of (log_of S)) (sequences_of (log_of R))
  -- What was logged keeps its effective block and its key. (Today each follows from the other; with Paper 11 a key can change while the block stays.)
  pub blocks : (m : Message) → m ∈ log_of S → effective_block R m ≡ effective_block S m
  pub keys : (m : Message) → m ∈ log_of S → key_of R m ≡ key_of S m

pub late_law : (S R : State) → Valid S → Valid R → S.origin ≡ R.origin → ((m : Message) → m ∈ S.deltas → m ∈ R.deltas) → LateLaw S R
late_law S R p q origin more = record {
  log = late_log S R origin p.ascends q.ascends more;
  order = left_out_order (sequences_of (log_of S)) (sequences_of (log_of R)) (late_sequences S R origin p.ascends q.ascends more);
  blocks = blocks_agree S R origin p.ascends q.ascends more;
  keys = keys_agree S R origin p.ascends q.ascends more;
}

-- So it is with every delivery to the plain station, accepted or refused, repeated, below a floor or not.
pub arrival_law : (S : State) → Valid S → (m : Message) (steps : List ℕ) → LateLaw S (receive S m (length steps))
arrival_law S v m steps = late_law S (receive S m (length steps)) v (next_valid S v (delivery m steps)) (sym (delivery_origin S m steps)) (delivery_keeps S m steps)

-- Deliver on any image: the logs in it before and after.
abbrev pub LogKept : List Message → List Message → Type 0
LogKept old new = SameOrder (sequences_of old) (sequences_of new) × (keep (λ m. has (sequence_of m) (sequences_of old)) new ≡ old)

pub deliver_late : (b : List ℕ) → T (is_image b) → (m : Message) (steps : List ℕ) → LogKept (log_in b) (log_in (deliver b m steps).image)
deliver_late b i m steps = subst (λ (x : List ℕ). LogKept (log_in x) (log_in (deliver x m steps).image)) (sym (image_own b i))
    (subst (λ (l : List Message). LogKept l (log_in (deliver (image_of S) m steps).image)) (sym (log_back S v))
    (subst (λ (l : List Message). LogKept (log_of S) l) (sym new) ((arrival_law S v m steps).order, (arrival_law S v m steps).log)))
  where
    S : State
    S = state_in b

    v : Valid S
    v = own_valid b i

    R : State
    R = receive S m (length steps)

    new : log_in (deliver (image_of S) m steps).image ≡ log_of R
    new = ap log_in (call_facts S v (delivery m steps) (deliver (image_of S) m steps) refl).image ∙ log_back R (next_valid S v (delivery m steps))
