-- The plain station: a set, a message and the length of a step buffer; whether the delivery is accepted, and how many deltas there are then.
use mathlib.Core.Path.{◌≡◌, refl}
use mathlib.Core.Bool.{Bool, true, false}
use mathlib.Core.List.{List, [], ◌∷◌, map}
use Prim.Native.Nat.{ℕ}
use lib.ListN.{length, take}
use lib.IntN.{pos}
use Rattle.model.specs.Message.{Message, layout_right, numbers_right, dependencies_right, content_right, command_right, passes}
use Rattle.model.specs.Order.{State, state_of, take_in}
use Rattle.model.specs.PlainStation.{accepts, receive}
use Rattle.model.proofs.ExampleMessages.{A, command, plain, right_commands, a1, a2, a1_value, lines, holding, origin, after}

pub record Delivery : Type 0 where
  pub set : State
  pub message : Message
  pub room : ℕ

abbrev to : State → Message → ℕ → Delivery
to S m room = record { set = S; message = m; room = room }

deliveries : List (Delivery × (Bool × ℕ))
deliveries =
    (to (holding []) a1 10160, (true, 1))
    -- "refused if its step buffer is refused by 1, else if the message fails 3 to 6"
    ∷ (to (holding []) a1 10159, (false, 0))
    ∷ (to (holding []) (take 47 a1) 10160, (false, 0))
    ∷ (to (holding []) (plain (A 0) [] right_commands) 10160, (false, 0))
    ∷ (to (holding []) (plain (A 2) (A 1 ∷ []) right_commands) 10160, (false, 0))
    ∷ (to (holding []) (plain (A 1) [] (command 1 64 (pos 5))) 10160, (false, 0))
    -- "else if the set has its sequence under other bytes"; under the same it "may be already" there
    ∷ (to (holding (a1_value 1 ∷ [])) (a1_value 2) 10160, (false, 1))
    ∷ (to (holding (a1_value 1 ∷ [])) (a1_value 1) 10160, (true, 1))
    -- "else if the set has 64 messages and not this sequence"
    ∷ (to (state_of (lines 2 63)) a2 10160, (true, 64))
    ∷ (to (state_of (lines 2 64)) a2 10160, (false, 64))
    -- at a floor: accepted, with 64 messages too, and "its message joins no set"; refused by 1 and by 6 as any other; above it
    ∷ (to (after (origin (A 1 ∷ []) 0 1) (lines 2 64)) a1 10160, (true, 64))
    ∷ (to (after (origin (A 1 ∷ []) 0 1) []) a1 10160, (true, 0))
    ∷ (to (after (origin (A 1 ∷ []) 0 1) []) a1 10159, (false, 0))
    ∷ (to (after (origin (A 1 ∷ []) 0 1) []) (plain (A 1) [] (command 1 64 (pos 5))) 10160, (false, 0))
    ∷ (to (after (origin (A 1 ∷ []) 0 1) []) a2 10160, (true, 1))
    ∷ []

abbrev outcome : Delivery → Bool × ℕ
outcome d = (accepts d.set d.message d.room, length (receive d.set d.message d.room).deltas)

deliveries_hold : map (λ e. outcome e.0) deliveries ≡ map (λ e. e.1) deliveries
unfolding deliveries accepts receive take_in passes layout_right numbers_right dependencies_right content_right command_right
deliveries_hold = refl
