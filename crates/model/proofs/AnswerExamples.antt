-- What a call answers once its code is known, 0 or a refusal: counts, steps, sizes, values and the parts that a reader gives.
-- A refusal writes nothing, and its counts, length and value are 0.
use mathlib.Core.Path.{◌≡◌, refl}
use mathlib.Core.List.{List, [], ◌∷◌, ◌++◌, map}
use Prim.Native.Nat.{ℕ}
use lib.ListN.{replicate}
use lib.IntN.{ℤ, pos}
use Rattle.model.specs.Message.{Message}
use Rattle.model.specs.Order.{take_in, needs, executables_of, log_of, held_of}
use Rattle.model.specs.Setpoints.{start_values, stop, raise, operate, change_of, apply, run_command, run_delta, changes_of, setpoints_of}
use Rattle.model.specs.Image.{messages_start, messages_of, values_of, base_of, floors_of, header_of, sections_of, used_of, image_of, messages_start_in, floors_in, base_in, origin_in}
use Rattle.model.specs.Steps.{Step, undo, execute, execution_of, undo_of, records_of, record_bytes}
use Rattle.model.specs.Calls.{written, empty_answer, Delivered, deliver_answer, compose_answer, setpoint_answer, start, next_message}
use Rattle.model.proofs.ExampleMessages.{A, B, a1, a2, b1, c2, holding}
use Rattle.model.proofs.RecordExamples.{setting}

-- the bytes used of the image of A1 and B1 in the log and C2 held: all that these answers read of it
abbrev used : List ℕ
used = used_of (holding (a1 ∷ b1 ∷ c2 ∷ []))

-- ---- "bytes past the steps are unchanged", and past a composed message: what is written, and the buffer
overwritten : List ((List ℕ × List ℕ) × List ℕ)
overwritten =
    (([], 7 ∷ 8 ∷ 9 ∷ []), 7 ∷ 8 ∷ 9 ∷ [])
    ∷ ((1 ∷ 2 ∷ [], 7 ∷ 8 ∷ 9 ∷ []), 1 ∷ 2 ∷ 9 ∷ [])
    ∷ ((1 ∷ 2 ∷ 3 ∷ [], 7 ∷ 8 ∷ 9 ∷ []), 1 ∷ 2 ∷ 3 ∷ [])
    ∷ []

overwritten_holds : map (λ e. written e.0.0 e.0.1) overwritten ≡ map (λ e. e.1) overwritten
unfolding overwritten
overwritten_holds = refl

-- ---- deliver with code 0: a set and a message; undos, executions, and a step buffer of 242 bytes as it is left
abbrev lent : List ℕ
lent = replicate 242 0xEE

-- a step that sets tag 3 alone
abbrev step_to : Step → ℤ → List ℕ
step_to step value = record_bytes (setting step value)

abbrev counts : Delivered → ℕ × ℕ × ℕ × List ℕ
counts d = (d.code, d.undos, d.executions, d.steps)

accepted : List ((List Message × Message) × (ℕ × ℕ × ℕ × List ℕ))
accepted =
    -- A2 is held: no step. A1 then: execute A1, A2. A1 again: no step.
    (([], a2), (0, 0, 0, lent))
    ∷ ((a2 ∷ [], a1), (0, 0, 2, step_to (execute (A 1)) (pos 1500) ++ step_to (execute (A 2)) (pos 7) ++ replicate 82 0xEE))
    ∷ ((a1 ∷ [], a1), (0, 0, 0, lent))
    -- B1 then A1: undo B1, execute A1, B1.
    ∷ ((b1 ∷ [], a1), (0, 1, 2, step_to (undo (B 1)) (pos 0) ++ step_to (execute (A 1)) (pos 1500) ++ step_to (execute (B 1)) (pos 1480) ++ 0xEE ∷ 0xEE ∷ []))
    ∷ []

accepted_holds : map (λ e. counts (deliver_answer 0 (holding e.0.0) [] e.0.1 lent)) accepted ≡ map (λ e. e.1) accepted
unfolding accepted take_in record_bytes records_of execution_of undo_of changes_of start_values run_delta run_command apply change_of operate raise stop log_of needs
accepted_holds = refl

-- ---- refusals: deliver by 7, compose by 9, empty by 1, setpoint by 12
refused_delivery : deliver_answer 7 (holding (b1 ∷ [])) used a1 lent ≡ record { code = 7; undos = 0; executions = 0; image = used; steps = lent }
refused_delivery = refl

refused_compose : compose_answer 9 a1 lent ≡ record { code = 9; size = 0; message = lent }
refused_compose = refl

refused_empty : empty_answer 1 lent ≡ record { code = 1; image = lent }
refused_empty = refl

refused_setpoint : setpoint_answer 12 used 3 ≡ record { code = 12; value = pos 0 }
refused_setpoint = refl

-- ---- compose with code 0: the message's 48 bytes, and those past them as they were
composes : compose_answer 0 a1 lent ≡ record { code = 0; size = 48; message = a1 ++ replicate 194 0xEE }
composes = refl

-- ---- setpoint with code 0: a tag and its value; 1500 - 20 at tag 3
values : List (ℕ × ℤ)
values = (2, pos 0) ∷ (3, pos 1480) ∷ (4, pos 0) ∷ (63, pos 0) ∷ []

abbrev value_in : List ℕ → ℕ → ℤ
value_in b tag = (setpoint_answer 0 b tag).value

values_hold : map (λ e. value_in used e.0) values ≡ map (λ e. e.1) values
unfolding values messages_start_in floors_in base_in origin_in used_of sections_of header_of values_of base_of floors_of messages_of messages_start setpoints_of start_values run_delta run_command apply change_of operate raise stop log_of held_of executables_of needs
values_hold = refl

-- ---- the reader: where it starts, on the image of A1, B1 and C2; on its used bytes alone, which answer 1
begun : List (List ℕ × ℕ)
begun = (image_of (holding (a1 ∷ b1 ∷ c2 ∷ [])), 544) ∷ (used, 0) ∷ []

begun_holds : map (λ e. (start e.0).offset) begun ≡ map (λ e. e.1) begun
unfolding begun start image_of messages_start_in used_of sections_of header_of values_of base_of floors_of messages_of messages_start setpoints_of start_values run_delta run_command apply change_of operate raise stop log_of held_of executables_of needs
begun_holds = refl

-- an offset, and the part there: A1, B1; past the log nothing, though C2 lies there, nor between two messages
parts : List (ℕ × Message)
parts = (544, a1) ∷ (592, b1) ∷ (640, []) ∷ (543, []) ∷ (572, []) ∷ []

parts_hold : map (λ e. next_message 0 used e.0) parts ≡ map (λ e. e.1) parts
unfolding parts messages_start_in used_of sections_of header_of values_of base_of floors_of messages_of messages_start setpoints_of start_values run_delta run_command apply change_of operate raise stop log_of held_of executables_of needs
parts_hold = refl

-- "on a buffer that answers 1 or 2, it gives an empty part"
refused_part : next_message 1 used 544 ∷ next_message 2 used 544 ∷ [] ≡ [] ∷ [] ∷ []
refused_part = refl
