-- A worked run with purges: B1, A1, a purge of the first log delta, A1 again, a purge of more than there are, A2, which needs A1, and a purge of
-- all. Each call with what the plain station makes of it, the log that its steps lead to, and what was purged by then.
use mathlib.Core.Path.{◌≡◌, refl, ap}
use mathlib.Core.Bool.{Bool, true, false}
use mathlib.Core.List.{List, [], ◌∷◌, map}
use Prim.Native.Nat.{ℕ, ◌+◌}
use native.Mathlib.Omega.{arith}
use lib.ListN.{get_or, replicate}
use lib.IntN.{ℤ, pos, negsuc}
use Rattle.model.specs.Layout.{setpoints_start, values_size}
use Rattle.model.specs.Bytes.{word}
use Rattle.model.specs.Message.{Message, layout_right, numbers_right, dependencies_right, content_right, command_right, passes}
use Rattle.model.specs.Order.{State, take_in, sequences_of, needs, log_of}
use Rattle.model.specs.Setpoints.{start_values, stop, raise, operate, change_of, apply, run_command, run_delta}
use Rattle.model.specs.Purge.{origin_past, purge_first}
use Rattle.model.specs.Image.{image_of}
use Rattle.model.specs.Steps.{undo, execute, record_bytes}
use Rattle.model.specs.Compose.{message_of}
use Rattle.model.specs.PlainStation.{accepts, receive, accepts_purge, receive_purge}
use Rattle.model_runs.specs.Run.{purging, Event, accepts?, state_after, accepted_in, remaining_in, deliveries, purged_after, SameStation, Played, PairsPlayed}
use Rattle.model.proofs.ExampleMessages.{A, B, plain, urgent, right_commands, a1, a2, b1, a1_value, holding}
use Rattle.model.proofs.RecordExamples.{setting}
use Rattle.model.proofs.PairExamples.{tag3, standing}
use Rattle.model_runs.proofs.ExampleEvents.{given, image, event}
use Rattle.model_runs.proofs.RunExamples.{two, over_both}

-- a purge, its code, and the image that it left
abbrev pub purging_by : ℕ → ℕ → List ℕ → Event
purging_by K code left = record {
  call = purging K;
  answer = record { code = code; undos = 0; executions = 0; image = left; steps = [] };
}

-- the state that has A1 purged, and B1
abbrev pub past_a1 : State
past_a1 = purge_first 1 (holding (a1 ∷ b1 ∷ []))

abbrev pub one_gone : Event
one_gone = purging_by 1 0 (image_of past_a1)

abbrev a1_late : Event
a1_late = event a1 0 0 0 [] (image_of past_a1)

abbrev too_many : Event
too_many = purging_by 2 15 (image_of past_a1)

-- A2 needs A1, which counts as placed: it comes before B1, which is undone to the base value
abbrev then_a2 : Event
then_a2 =
    event a2 0 1 2 (setting (undo (B 1)) (pos 1500) ∷ setting (execute (A 2)) (pos 7) ∷ setting (execute (B 1)) (negsuc 12) ∷ [])
    (image_of (take_in a2 past_a1))

abbrev all_gone : Event
all_gone = purging_by 2 0 (image_of (purge_first 2 (take_in a2 past_a1)))

-- all of them, the latest first
abbrev pub whole : List Event
whole = all_gone ∷ then_a2 ∷ too_many ∷ a1_late ∷ one_gone ∷ two

-- ---- the plain station: whether it accepts the call; then its deltas, its log, and what was purged
pub record Plainly : Type 0 where
  pub accepted : Bool
  pub deltas : List ℕ
  pub log : List ℕ
  pub purged : List ℕ

abbrev plainly : Bool → List ℕ → List ℕ → List ℕ → Plainly
plainly accepted deltas log purged = record { accepted = accepted; deltas = deltas; log = log; purged = purged }

calls : List (Event × Plainly)
calls =
    (one_gone, plainly true (B 1 ∷ []) (B 1 ∷ []) (A 1 ∷ []))
    -- "its message joins no set"
    ∷ (a1_late, plainly true (B 1 ∷ []) (B 1 ∷ []) (A 1 ∷ []))
    -- "15 if K exceeds L"
    ∷ (too_many, plainly false (B 1 ∷ []) (B 1 ∷ []) (A 1 ∷ []))
    ∷ (then_a2, plainly true (A 2 ∷ B 1 ∷ []) (A 2 ∷ B 1 ∷ []) (A 1 ∷ []))
    -- "Purged deltas keep their order ahead of all later ones"
    ∷ (all_gone, plainly true [] [] (A 1 ∷ A 2 ∷ B 1 ∷ []))
    ∷ []

abbrev in_turn : List Event → List Event → List Plainly
in_turn earlier [] = []
in_turn earlier (e ∷ l) =
    let S = state_after given (e ∷ earlier) in
    plainly (accepts? (state_after given earlier) e.call) (sequences_of S.deltas) (sequences_of (log_of S)) (purged_after given (e ∷ earlier))
    ∷ in_turn (e ∷ earlier) l

calls_hold : in_turn two (map (λ c. c.0) calls) ≡ map (λ c. c.1) calls
unfolding calls accepts receive accepts_purge receive_purge purge_first origin_past take_in passes layout_right numbers_right dependencies_right content_right command_right log_of needs record_bytes start_values run_delta run_command apply change_of operate raise stop
calls_hold = refl

-- "remaining deltas": A1 was accepted twice, and does not remain
abbrev later : List Event
later = then_a2 ∷ too_many ∷ a1_late ∷ one_gone ∷ two

accepted : accepted_in later ≡ a2 ∷ a1 ∷ a1 ∷ b1 ∷ []
accepted = refl

remaining : remaining_in given later ≡ a2 ∷ b1 ∷ []
unfolding accepts receive accepts_purge receive_purge purge_first origin_past take_in passes layout_right numbers_right dependencies_right content_right command_right log_of needs record_bytes start_values run_delta run_command apply change_of operate raise stop
remaining = refl

-- ---- "the log that the steps are played on loses the same K", and none where the purge was refused
module _ (before : Played two (A 1 ∷ B 1 ∷ [])) where
  played_purge : Played (one_gone ∷ two) (B 1 ∷ [])
  played_purge = (A 1 ∷ B 1 ∷ [], [], [], before, record { read = refl; undos = refl; executions = refl }, refl)

  played_refused : Played (too_many ∷ one_gone ∷ two) (B 1 ∷ [])
  played_refused = (B 1 ∷ [], [], [], played_purge, record { read = refl; undos = refl; executions = refl }, refl)

-- ---- the executions that stand lose the same: B1's is left, and can be undone; A1's is gone
abbrev begun : List ℕ
begun = replicate (setpoints_start + values_size) 0

over_purge : PairsPlayed begun (one_gone ∷ two) (standing (B 1) (pos 1500) ∷ []) (tag3 (pos 1480))
over_purge = (standing (B 1) (pos 1500) ∷ standing (A 1) (pos 0) ∷ [], tag3 (pos 1480), [], over_both, refl, (refl, refl))

over_refused : PairsPlayed begun (too_many ∷ one_gone ∷ two) (standing (B 1) (pos 1500) ∷ []) (tag3 (pos 1480))
over_refused = (standing (B 1) (pos 1500) ∷ [], tag3 (pos 1480), [], over_purge, refl, (refl, refl))

-- ---- a list of deliveries alone is another
deliveries_alone : deliveries two ≡ true
deliveries_alone = refl

with_a_purge : deliveries (one_gone ∷ two) ≡ false
with_a_purge = refl

-- ---- stations that purged one delta, which was not the same: the same remains, but no equal images are promised
abbrev past : Message → List Event
past m = purging_by 1 0 (image_of (purge_first 1 (holding (m ∷ [])))) ∷ event m 0 0 1 [] (image (m ∷ [])) ∷ []

abbrev grouped : ℕ → Message
grouped group = message_of false (A 1) group 0 0 [] right_commands

other_floors : SameStation given (past (plain (A 1) [] right_commands)) given (past (plain (B 1) [] right_commands)) → ⊥
unfolding accepts receive accepts_purge receive_purge purge_first origin_past take_in passes layout_right numbers_right dependencies_right content_right command_right log_of needs start_values run_delta run_command apply change_of operate raise stop
other_floors same = let one : A 1 ≡ B 1 = ap (λ (l : List ℕ). get_or l 0 0) same.floors in omega arith

other_base : SameStation given (past (a1_value 1)) given (past (a1_value 2)) → ⊥
unfolding accepts receive accepts_purge receive_purge purge_first origin_past take_in passes layout_right numbers_right dependencies_right content_right command_right log_of needs start_values run_delta run_command apply change_of operate raise stop
other_base same = let one : word (pos 1) ≡ word (pos 2) = ap (λ (v : List ℤ). word (get_or v 3 (pos 0))) same.base in omega arith

other_block : SameStation given (past (urgent (A 1) 1 5 right_commands)) given (past (urgent (A 1) 2 5 right_commands)) → ⊥
unfolding accepts receive accepts_purge receive_purge purge_first origin_past take_in passes layout_right numbers_right dependencies_right content_right command_right log_of needs start_values run_delta run_command apply change_of operate raise stop
other_block same = let one : (state_after given (past (urgent (A 1) 1 5 right_commands))).origin.block ≡ 2 = same.block in omega arith

other_group : SameStation given (past (grouped 1)) given (past (grouped 2)) → ⊥
unfolding accepts receive accepts_purge receive_purge purge_first origin_past take_in passes layout_right numbers_right dependencies_right content_right command_right log_of needs start_values run_delta run_command apply change_of operate raise stop
other_group same = let one : (state_after given (past (grouped 1))).origin.group ≡ 2 = same.group in omega arith
