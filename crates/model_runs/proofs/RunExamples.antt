-- A worked run: B1, A1, A1 again, C1 with a wrong tag, C1 with a step buffer that is too small, C2, which is held, and C1, which frees it.
-- Each call with the answer that it must give, what the plain station makes of it, and the log that its steps lead to.
use mathlib.Core.Path.{◌≡◌, refl, ap}
use mathlib.Core.Bool.{Bool, true, false}
use mathlib.Core.List.{List, [], ◌∷◌, map}
use Prim.Native.Nat.{ℕ, ◌+◌}
use native.Mathlib.Omega.{arith}
use lib.ListN.{length, replicate}
use lib.IntN.{pos, negsuc}
use Rattle.model.specs.Layout.{setpoints_start, values_size}
use Rattle.model.specs.Message.{Message, layout_right, numbers_right, dependencies_right, content_right, command_right, passes}
use Rattle.model.specs.Order.{State, take_in, sequences_of, needs, log_of}
use Rattle.model.specs.Image.{image_of, values_in}
use Rattle.model.specs.Steps.{undo, execute, pair_of, record_bytes, read_record}
use Rattle.model.specs.Calls.{Delivered, empty_state}
use Rattle.model.specs.PlainStation.{accepts, receive}
use Rattle.model_runs.specs.Run.{Call, delivery, Event, Run, accepts?, state_next, state_after, log_after, Played, PairsPlayed}
use Rattle.model.proofs.ExampleMessages.{A, B, C, command, plain, a1, b1, c1, c2, holding}
use Rattle.model.proofs.RecordExamples.{carrying, setting}
use Rattle.model.proofs.PairExamples.{tag3, standing, b1_then_a1}
use Rattle.model_runs.proofs.ExampleEvents.{given, image, event, start, first_b1}

-- ---- the calls, after `first_b1`
abbrev pub then_a1 : Event
then_a1 =
    event a1 0 1 2 (setting (undo (B 1)) (pos 0) ∷ setting (execute (A 1)) (pos 1500) ∷ setting (execute (B 1)) (pos 1480) ∷ []) (image (a1 ∷ b1 ∷ []))

-- A call without a step. The host lends the buffer that A1's delivery left: its records stand there still, and are none of this call's.
abbrev quiet : Message → ℕ → List ℕ → Event
quiet m code left = record {
  call = delivery m then_a1.answer.steps;
  answer = record { code = code; undos = 0; executions = 0; image = left; steps = then_a1.answer.steps };
}

abbrev pub a1_again : Event
a1_again = quiet a1 0 (image (a1 ∷ b1 ∷ []))

abbrev pub wrong_c1 : Event
wrong_c1 = quiet (plain (C 1) [] (command 1 64 (pos 5))) 6 (image (a1 ∷ b1 ∷ []))

-- a step buffer that lacks a byte
abbrev pub cramped_c1 : Event
cramped_c1 = record {
  call = delivery c1 (replicate 10159 0xEE);
  answer = record { code = 1; undos = 0; executions = 0; image = image (a1 ∷ b1 ∷ []); steps = replicate 10159 0xEE };
}

abbrev pub held_c2 : Event
held_c2 = quiet c2 0 (image (a1 ∷ b1 ∷ c2 ∷ []))

abbrev pub freeing_c1 : Event
freeing_c1 =
    event c1 0 0 2 (carrying (execute (C 1)) (pair_of 4 (pos 20) ∷ []) ∷ carrying (execute (C 2)) (pair_of 4 (pos 21) ∷ []) ∷ []) (image (a1 ∷ b1 ∷ c1 ∷ c2 ∷ []))

-- the first two, and all; the latest first
abbrev pub two : List Event
two = then_a1 ∷ first_b1 ∷ []

abbrev pub whole : List Event
whole = freeing_c1 ∷ held_c2 ∷ cramped_c1 ∷ wrong_c1 ∷ a1_again ∷ two

-- ---- "Each call gets the image as the last one left it", the first one that of no deltas: here each takes the image of a state to that of
-- the plain station's next state.
abbrev Moves : List ℕ → Call → Delivered → Type 0
Moves b c a = (S : State) × (b ≡ image_of S) × (a.image ≡ image_of (state_next S c))

run : Run Moves start whole
unfolding accepts receive take_in passes layout_right numbers_right dependencies_right content_right command_right record_bytes
run =
    let both = holding (a1 ∷ b1 ∷ []) in (
      (holding (a1 ∷ b1 ∷ c2 ∷ []), refl, refl),
      ((both, refl, refl), ((both, refl, refl), ((both, refl, refl), ((both, refl, refl), ((holding (b1 ∷ []), refl, refl), ((empty_state, refl, refl), tt)))))),
    )

-- ---- the plain station: whether it accepts the call; then its deltas and its log
pub record Plainly : Type 0 where
  pub accepted : Bool
  pub deltas : List ℕ
  pub log : List ℕ

abbrev plainly : Bool → List ℕ → List ℕ → Plainly
plainly accepted deltas log = record { accepted = accepted; deltas = deltas; log = log }

calls : List (Event × Plainly)
calls =
    (first_b1, plainly true (B 1 ∷ []) (B 1 ∷ []))
    ∷ (then_a1, plainly true (A 1 ∷ B 1 ∷ []) (A 1 ∷ B 1 ∷ []))
    -- "its message joins the set, where it may be already"
    ∷ (a1_again, plainly true (A 1 ∷ B 1 ∷ []) (A 1 ∷ B 1 ∷ []))
    -- "A refused one changes nothing."
    ∷ (wrong_c1, plainly false (A 1 ∷ B 1 ∷ []) (A 1 ∷ B 1 ∷ []))
    ∷ (cramped_c1, plainly false (A 1 ∷ B 1 ∷ []) (A 1 ∷ B 1 ∷ []))
    ∷ (held_c2, plainly true (A 1 ∷ B 1 ∷ C 2 ∷ []) (A 1 ∷ B 1 ∷ []))
    ∷ (freeing_c1, plainly true (A 1 ∷ B 1 ∷ C 1 ∷ C 2 ∷ []) (A 1 ∷ B 1 ∷ C 1 ∷ C 2 ∷ []))
    ∷ []

-- call by call, after the earlier ones, of which the latest stands first
abbrev in_turn : List Event → List Event → List Plainly
in_turn earlier [] = []
in_turn earlier (e ∷ l) =
    plainly (accepts? (state_after given earlier) e.call) (sequences_of (state_after given (e ∷ earlier)).deltas) (log_after given (e ∷ earlier))
    ∷ in_turn (e ∷ earlier) l

calls_hold : in_turn [] (map (λ c. c.0) calls) ≡ map (λ c. c.1) calls
unfolding calls accepts receive take_in passes layout_right numbers_right dependencies_right content_right command_right log_of needs record_bytes
calls_hold = refl

-- ---- the played log after each call: the log before it, the deltas that it undid and executed, and what its steps lead to
played_b1 : Played (first_b1 ∷ []) (B 1 ∷ [])
unfolding read_record record_bytes
played_b1 = ([], [], B 1 ∷ [], refl, record { read = refl; undos = refl; executions = refl }, refl)

played_a1 : Played two (A 1 ∷ B 1 ∷ [])
unfolding read_record record_bytes
played_a1 = (B 1 ∷ [], B 1 ∷ [], A 1 ∷ B 1 ∷ [], played_b1, record { read = refl; undos = refl; executions = refl }, ([], refl, refl))

played_again : Played (a1_again ∷ two) (A 1 ∷ B 1 ∷ [])
played_again = (A 1 ∷ B 1 ∷ [], [], [], played_a1, record { read = refl; undos = refl; executions = refl }, refl)

played_wrong : Played (wrong_c1 ∷ a1_again ∷ two) (A 1 ∷ B 1 ∷ [])
played_wrong = (A 1 ∷ B 1 ∷ [], [], [], played_again, record { read = refl; undos = refl; executions = refl }, refl)

played_cramped : Played (cramped_c1 ∷ wrong_c1 ∷ a1_again ∷ two) (A 1 ∷ B 1 ∷ [])
played_cramped = (A 1 ∷ B 1 ∷ [], [], [], played_wrong, record { read = refl; undos = refl; executions = refl }, refl)

played_held : Played (held_c2 ∷ cramped_c1 ∷ wrong_c1 ∷ a1_again ∷ two) (A 1 ∷ B 1 ∷ [])
played_held = (A 1 ∷ B 1 ∷ [], [], [], played_cramped, record { read = refl; undos = refl; executions = refl }, refl)

played_freed : Played whole (A 1 ∷ B 1 ∷ C 1 ∷ C 2 ∷ [])
unfolding read_record record_bytes
played_freed = (A 1 ∷ B 1 ∷ [], [], C 1 ∷ C 2 ∷ [], played_held, record { read = refl; undos = refl; executions = refl }, refl)

-- "The played log starts empty."
starts_empty : Played [] (A 1 ∷ []) → ⊥
starts_empty e = let one : length (A 1 ∷ []) ≡ length {A = ℕ} [] = ap length e in omega arith

-- ---- the pairs of the first two calls, played from an image of zeros on
pub over_both : PairsPlayed (replicate (setpoints_start + values_size) 0) two (standing (B 1) (pos 1500) ∷ standing (A 1) (pos 0) ∷ []) (tag3 (pos 1480))
unfolding values_in read_record record_bytes
over_both = (
  standing (B 1) (pos 0) ∷ [],
  tag3 (negsuc 19),
  setting (undo (B 1)) (pos 0) ∷ setting (execute (A 1)) (pos 1500) ∷ setting (execute (B 1)) (pos 1480) ∷ [],
  ([], tag3 (pos 0), setting (execute (B 1)) (negsuc 19) ∷ [], (refl, refl), refl, (standing (B 1) (pos 0) ∷ [], refl, (refl, refl))),
  refl,
  b1_then_a1,
)
