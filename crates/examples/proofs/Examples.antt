-- The starred examples of document 01, and A1's bytes: inputs and outcomes side by side, and one proof over the list of them.
-- Each delivery is a whole call of `deliver` on an image that began as the one that `empty` writes.
use mathlib.Core.Path.{◌≡◌, refl}
use mathlib.Core.Bool.{false}
use mathlib.Core.Option.{Option, some}
use mathlib.Core.List.{List, [], ◌∷◌, ◌++◌, map}
use Prim.Native.Nat.{ℕ, ◌+◌}
use lib.ListN.{take, replicate}
use lib.IntN.{ℤ, pos, negsuc}
use Rattle.model.specs.Bytes.{bytes, field}
use Rattle.model.specs.Layout.{image_size, step_room, message_room}
use Rattle.model.specs.Message.{Message, layout_right, numbers_right, dependencies_right, content_right, command_right, passes}
use Rattle.model.specs.Tops.{tops_right}
use Rattle.model.specs.Order.{origin_right, take_in, sequences_of, needs, executables_of, log_of, held_of}
use Rattle.model.specs.Setpoints.{start_values, stop, raise, operate, change_of, apply, run_command, run_delta, changes_of, setpoints_of}
use Rattle.model.specs.Image.{messages_start, messages_of, values_of, base_of, floors_of, header_of, sections_of, used_of, image_of, messages_start_in, floors_in, base_in, origin_in, log_in, state_in, is_image}
use Rattle.model.specs.Steps.{Step, undo, execute, pair_of, StepRecord, execution_of, undo_of, records_of, record_bytes, read_record, read_records}
use Rattle.model.specs.Compose.{message_of, new_dependencies, composed}
use Rattle.model.specs.Calls.{empty, Delivered, deliver, deliver_code, compose, compose_code, setpoint}
use Rattle.model.proofs.ExampleMessages.{line_number, A, B, C, command, a1, a2, b1, c2, stopped, b1_5, c1_7, raised, a1_group_2, a1_naming_b1, b1_naming_a1}

-- ---- a step buffer as lent, and the image that empty writes
abbrev step_buffer : List ℕ
step_buffer = replicate step_room 0xEE

abbrev begun : List ℕ
begun = (empty (replicate image_size 0xEE)).image

-- ---- an example: what is done, and what comes of it
data Input : Type 0 where
  encode : Message → Input
  deliver_all : List Message → Input
  compose_on : ℕ → List Message → Input

abbrev Answer : Type 0
Answer = ℕ × Option (List StepRecord)

data Outcome : Type 0 where
  -- the bytes of a message, and the code beside them
  message : ℕ → List ℕ → Outcome
  -- each delivery's code and steps with their pairs; then L, H, the bytes used, the log, the held ones and tag 3
  station : List Answer → ℕ → ℕ → ℕ → List ℕ → List ℕ → ℤ → Outcome

abbrev answer : Delivered → Answer
answer d = (d.code, read_records (d.undos + d.executions) d.steps)

abbrev show : List Answer → List ℕ → Outcome
show done b = station done (field b 0 2) (field b 2 2) (field b 8 2) (sequences_of (log_in b)) (sequences_of (held_of (state_in b))) (setpoint b 3).value

abbrev run : List Answer → List ℕ → List Message → Outcome
run done b [] = show done b
run done b (m ∷ l) = let d = deliver b m step_buffer in run (done ++ answer d ∷ []) d.image l

abbrev image_of_all : List ℕ → List Message → List ℕ
image_of_all b [] = b
image_of_all b (m ∷ l) = image_of_all (deliver b m step_buffer).image l

abbrev outcome_of : Input → Outcome
outcome_of (encode m) = message 0 m
outcome_of (deliver_all l) = run [] begun l
outcome_of (compose_on line l) =
    let c = compose (image_of_all begun l) (bytes 10 line) (command 1 3 (pos 5)) 0 0 (replicate message_room 0xEE) in
    message c.code (take c.size c.message)

abbrev ok : List StepRecord → Answer
ok l = (0, some l)

-- a step that sets a tag to these values in turn
abbrev at : ℕ → Step → List ℤ → StepRecord
at tag step values = record { step = step; pairs = map (pair_of tag) values }

-- one that sets tag 3 alone, as most do
abbrev run3 : ℕ → ℤ → StepRecord
run3 s value = at 3 (execute s) (value ∷ [])

abbrev undo3 : ℕ → ℤ → StepRecord
undo3 s value = at 3 (undo s) (value ∷ [])

abbrev run_c1 : StepRecord
run_c1 = at 4 (execute (C 1)) (pos 20 ∷ [])

examples : List (Input × Outcome)
examples =
    -- A1's bytes
    (
      encode a1,
      message 0 (0x01 ∷ 0x00 ∷ 0x00 ∷ 0x01 ∷ 0x00 ∷ 0x30 ∷ 0x00 ∷ 0x28 ∷ 0x00 ∷ 0x28 ∷ 0x00 ∷ 0x00 ∷ 0x00 ∷ 0x00 ∷ 0x00 ∷ 0x00
          ∷ 0x00 ∷ 0x0A ∷ 0x00 ∷ 0x00 ∷ 0x00 ∷ 0x01 ∷ 0x00 ∷ 0x01 ∷ 0x00 ∷ 0x00 ∷ 0x00 ∷ 0x01 ∷ 0x00 ∷ 0x00 ∷ 0x00 ∷ 0x00
          ∷ 0x00 ∷ 0x00 ∷ 0x00 ∷ 0x00 ∷ 0x00 ∷ 0x00 ∷ 0x00 ∷ 0x00 ∷ 0x01 ∷ 0x03 ∷ 0x00 ∷ 0x00 ∷ 0x00 ∷ 0x00 ∷ 0x05 ∷ 0xDC ∷ []),
    )
    -- No deltas: L 0, H 0, used 544.
    ∷ (deliver_all [], station [] 0 0 544 [] [] (pos 0))
    -- A1: log A1, tag 3 is 1500.
    ∷ (deliver_all (a1 ∷ []), station (ok (run3 (A 1) (pos 1500) ∷ []) ∷ []) 1 0 592 (A 1 ∷ []) [] (pos 1500))
    -- A2 then A1: first no step, held; then execute A1, A2.
    ∷ (deliver_all (a2 ∷ []), station (ok [] ∷ []) 0 1 592 [] (A 2 ∷ []) (pos 0))
    ∷ (deliver_all (a2 ∷ a1 ∷ []), station (ok [] ∷ ok (run3 (A 1) (pos 1500) ∷ run3 (A 2) (pos 7) ∷ []) ∷ []) 2 0 640 (A 1 ∷ A 2 ∷ []) [] (pos 7))
    -- B1 then A1: undo B1, execute A1, B1; tag 3 is 1480.
    ∷ (
      deliver_all (b1 ∷ a1 ∷ []),
      station (ok (run3 (B 1) (negsuc 19) ∷ []) ∷ ok (undo3 (B 1) (pos 0) ∷ run3 (A 1) (pos 1500) ∷ run3 (B 1) (pos 1480) ∷ []) ∷ []) 2 0 640 (A 1 ∷ B 1 ∷ []) [] (pos 1480),
    )
    -- Set 999990, add 20, add -20: 999980.
    ∷ (deliver_all (stopped ∷ []), station (ok (at 3 (execute (A 1)) (pos 999990 ∷ pos 1000000 ∷ pos 999980 ∷ []) ∷ []) ∷ []) 1 0 608 (A 1 ∷ []) [] (pos 999980))
    -- B1 block 1 priority 5, C1 block 1 priority 7, plain A1: log A1, C1, B1.
    ∷ (
      deliver_all (b1_5 ∷ c1_7 ∷ a1 ∷ []),
      station (ok (run3 (B 1) (negsuc 19) ∷ []) ∷ ok (undo3 (B 1) (pos 0) ∷ run_c1 ∷ run3 (B 1) (negsuc 19) ∷ [])
          ∷ ok (undo3 (B 1) (pos 0) ∷ at 4 (undo (C 1)) (pos 0 ∷ []) ∷ run3 (A 1) (pos 1500) ∷ run_c1 ∷ run3 (B 1) (pos 1480) ∷ []) ∷ [])
          3 0 688 (A 1 ∷ C 1 ∷ B 1 ∷ []) [] (pos 1480),
    )
    -- With plain C2 too: A1, C1, B1, C2.
    ∷ (
      deliver_all (c2 ∷ a1 ∷ b1_5 ∷ c1_7 ∷ []),
      station (ok [] ∷ ok (run3 (A 1) (pos 1500) ∷ []) ∷ ok (run3 (B 1) (pos 1480) ∷ [])
          ∷ ok (undo3 (B 1) (pos 1500) ∷ run_c1 ∷ run3 (B 1) (pos 1480) ∷ at 4 (execute (C 2)) (pos 21 ∷ []) ∷ []) ∷ [])
          4 0 736 (A 1 ∷ C 1 ∷ B 1 ∷ C 2 ∷ []) [] (pos 1480),
    )
    -- A1 and B1 each naming the other: L 0, H 2.
    ∷ (deliver_all (b1_naming_a1 ∷ a1_naming_b1 ∷ []), station (ok [] ∷ ok [] ∷ []) 0 2 664 [] (A 1 ∷ B 1 ∷ []) (pos 0))
    -- A1 again: no step.
    ∷ (deliver_all (a1 ∷ a1 ∷ []), station (ok (run3 (A 1) (pos 1500) ∷ []) ∷ ok [] ∷ []) 1 0 592 (A 1 ∷ []) [] (pos 1500))
    -- Compose on A, log B1: A1, group 2, names B1.
    ∷ (compose_on (line_number 0xA) (b1 ∷ []), message 0 (message_of false (A 1) 2 0 0 (B 1 ∷ []) (command 1 3 (pos 5))))
    -- Compose on B, log A1: B1, group 1, names A1.
    ∷ (compose_on (line_number 0xB) (a1 ∷ []), message 0 (message_of false (B 1) 1 0 0 (A 1 ∷ []) (command 1 3 (pos 5))))
    -- Beside the starred ones. A1 of group 2 and B1 of group 1: log B1, A1.
    ∷ (
      deliver_all (a1_group_2 ∷ b1 ∷ []),
      station (ok (run3 (A 1) (pos 1500) ∷ []) ∷ ok (undo3 (A 1) (pos 0) ∷ run3 (B 1) (negsuc 19) ∷ run3 (A 1) (pos 1500) ∷ []) ∷ []) 2 0 640 (B 1 ∷ A 1 ∷ []) [] (pos 1500),
    )
    -- Set 5, raise to 3, to 9, to -1: 9.
    ∷ (deliver_all (raised ∷ []), station (ok (at 3 (execute (A 1)) (pos 5 ∷ pos 5 ∷ pos 9 ∷ pos 9 ∷ []) ∷ []) ∷ []) 1 0 616 (A 1 ∷ []) [] (pos 9))
    -- Compose on A, log A1: A2, group 1, which names nothing.
    ∷ (compose_on (line_number 0xA) (a1 ∷ []), message 0 (message_of false (A 2) 1 0 0 [] (command 1 3 (pos 5))))
    ∷ []

-- Every example has the outcome that stands beside it.
examples_hold : map (λ e. outcome_of e.0) examples ≡ map (λ e. e.1) examples
unfolding examples empty deliver deliver_code take_in compose compose_code setpoint composed new_dependencies is_image image_of used_of sections_of header_of values_of base_of floors_of messages_of messages_start messages_start_in floors_in base_in origin_in origin_right tops_right setpoints_of start_values log_of held_of executables_of needs read_record record_bytes records_of execution_of undo_of changes_of run_delta run_command apply change_of operate raise stop passes layout_right numbers_right dependencies_right content_right command_right
examples_hold = refl
