-- What deliver answers by its code; and of a message that is present with equal bytes, or at or below a floor.
use Rattle.std.specs.Prelude.{◌≡◌, true, not, List, ℕ, length, T}
use Rattle.std.proofs.Common.{sym, ◌∙◌}
use Rattle.std.proofs.Math.Path.{ap}
use Rattle.model.specs.Message.{Message, sequence_of}
use Rattle.model.specs.Order.{State, holding, purged, take_in, sequences_of}
use Rattle.model.specs.Image.{state_in, is_image}
use Rattle.model.specs.Codes.{present, deliver_conditions}
use Rattle.model.specs.Calls.{accepted_answer, deliver_answer, deliver_code, deliver}
use Rattle.laws_order.specs.TestLaws.{true_T, has→∈}
use Rattle.laws_state.specs.ImageLaws.{image_own, own_valid}
use Rattle.laws_state.specs.SetLaws.{insert_present}
use Rattle.laws_state.specs.DeliverLaws.{take_in_purged, take_in_above, accepted_self}
use Rattle.laws_codes.specs.Ladder.{Answers}

module _ (b : List ℕ) (m : Message) (steps : List ℕ) where
  abbrev S : State
  S = state_in b

  pub answered : {n : ℕ} → Answers (deliver_conditions b m (length steps)) n → deliver_answer n S b m steps ≡ deliver b m steps
  unfolding deliver deliver_code
  answered r = ap (λ (n : ℕ). deliver_answer n S b m steps) (sym r.is)

  -- where nothing joins the set there is no step, and the image stays as it is
  nothing_joins : T (is_image b) → take_in m S ≡ S → record { code = 0; undos = 0; executions = 0; image = b; steps = steps } ≡ accepted_answer S (take_in m S) steps
  nothing_joins image same-state =
      sym (ap (λ (R : State). accepted_answer S R steps) same-state ∙ accepted_self S steps
      ∙ ap (λ (i : List ℕ). record { code = 0; undos = 0; executions = 0; image = i; steps = steps }) (sym (image_own b image)))

  -- "A delta already present with equal bytes answers 0 with no step"
  pub repeat_case : T (is_image b) → present S (sequence_of m) ≡ true → T (not (purged S (sequence_of m)))
      → record { code = 0; undos = 0; executions = 0; image = b; steps = steps } ≡ accepted_answer S (take_in m S) steps
  repeat_case image there high = nothing_joins image (take_in_above m S high ∙ ap (holding S.origin) (insert_present m S.deltas (own_valid b image).ascends (has→∈ (sequence_of m) (sequences_of S.deltas) (true_T _ there))))

  -- "A delivery at or below a floor answers 0 with no step"
  pub purged_case : T (is_image b) → T (purged S (sequence_of m)) → record { code = 0; undos = 0; executions = 0; image = b; steps = steps } ≡ accepted_answer S (take_in m S) steps
  purged_case image low = nothing_joins image (take_in_purged m S low)
