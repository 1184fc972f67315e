-- Examples for every row of the code table, of each call that can meet it, and of what each call answers beside a code.
-- Inputs and outcomes side by side, and one proof over the list of them.
use mathlib.Core.Path.{◌≡◌, refl}
use mathlib.Core.Bool.{Bool, true, false}
use mathlib.Core.Option.{Option, some}
use mathlib.Core.List.{List, [], ◌∷◌, ◌++◌, map}
use Prim.Native.Nat.{ℕ, zero, suc, ◌+◌, ◌*◌, ◌-◌}
use lib.ListN.{take, drop, replicate}
use lib.IntN.{ℤ, pos}
use Rattle.model.specs.Lists.{same}
use Rattle.model.specs.Bytes.{bytes}
use Rattle.model.specs.Layout.{image_size, step_size, step_room, message_room, line_size, field_limit}
use Rattle.model.specs.Message.{Message, layout_right, numbers_right, dependencies_right, content_right, command_right, passes}
use Rattle.model.specs.Tops.{tops_right}
use Rattle.model.specs.Order.{origin_right, take_in, state_of, needs, executables_of, log_of, held_of}
use Rattle.model.specs.Setpoints.{start_values, stop, raise, operate, change_of, apply, run_command, run_delta, changes_of, setpoints_of}
use Rattle.model.specs.Image.{messages_start, messages_of, values_of, base_of, floors_of, header_of, sections_of, used_of, image_of, messages_start_in, floors_in, base_in, origin_in, offset_of, set_of, is_image}
use Rattle.model.specs.Steps.{Step, undo, execute, execution_of, undo_of, records_of, record_bytes, read_record, read_steps}
use Rattle.model.specs.Text.{character_of}
use Rattle.model.specs.Compose.{message_of, new_dependencies, composed}
use Rattle.model.specs.Calls.{empty_state, Emptied, empty, Delivered, deliver, deliver_code, Composed, compose, compose_code, log_message, log_message_code, Setpoint, setpoint, Reader, start, next}
use Rattle.model.specs.Program.{printed_line, last_line, bad_cut, lines_from, listing, printed_value, printed_command, log_line, printed_log}
use Rattle.model.proofs.ExampleMessages.{A, B, C, command, plain, urgent, right_commands, a1, a2, b1, c2, b1_5, a1_value, lines, origin, after, line_a, line_c}

-- ---- a buffer that is lent as an image
data Buffer : Type 0 where
  -- the image of these deltas; of a station that purged up to this floor
  holding : List Message → Buffer
  purged_to : ℕ → List Message → Buffer
  -- "image of 16,383"; "L = 1, no message"; the image of no deltas, but with a last byte of 1
  short no_message end_not_zero : Buffer

abbrev none : Buffer
none = holding []

abbrev bytes_of : Buffer → List ℕ
bytes_of (holding l) = image_of (state_of (set_of l))
bytes_of (purged_to floor l) = image_of (after (origin (floor ∷ []) 0 1) l)
bytes_of short = take (image_size - 1) (image_of empty_state)
bytes_of no_message = bytes 2 1 ++ drop 2 (image_of empty_state)
bytes_of end_not_zero = take (image_size - 1) (image_of empty_state) ++ 1 ∷ []

-- ---- a call: what it is given, and what it answers
data Input : Type 0 where
  empty_on : ℕ → Input
  -- the length of the step buffer last
  deliver_to : Buffer → Message → ℕ → Input
  -- line, its size, commands, flag, priority, the length of the message buffer
  compose_on : Buffer → ℕ → ℕ → List ℕ → ℕ → ℕ → ℕ → Input
  log_message_of : Buffer → ℕ → Input
  setpoint_of : Buffer → ℕ → Input
  -- so many nexts from the start
  read_log : Buffer → ℕ → Input
  list : List ℕ → Input
  print_log : Buffer → Input

data Outcome : Type 0 where
  -- the code, and whether the buffer is as it was
  emptied : ℕ → Bool → Outcome
  -- code, undos and executions; the steps; whether the image is as it was, and the step buffer past the steps
  delivered : ℕ → ℕ → ℕ → Option (List Step) → Bool → Bool → Outcome
  -- code, size and the bytes written; whether the buffer past them is as it was
  composes : ℕ → ℕ → List ℕ → Bool → Outcome
  -- the part, and the second call's code
  part : List ℕ → ℕ → Outcome
  -- code and value
  value : ℕ → ℤ → Outcome
  -- the offset at the start; each part, and the offset after it
  parts : ℕ → List (List ℕ × ℕ) → Outcome
  printed : List ℕ → Outcome

abbrev show_emptied : List ℕ → Emptied → Outcome
show_emptied lent a = emptied a.code (same a.image lent)

abbrev show_delivered : List ℕ → List ℕ → Delivered → Outcome
show_delivered b lent d =
    let n = d.undos + d.executions in
    delivered d.code d.undos d.executions (read_steps n d.steps)
    (same d.image b) (same (drop (step_size * n) d.steps) (drop (step_size * n) lent))

abbrev show_composed : List ℕ → Composed → Outcome
show_composed lent c = composes c.code c.size (take c.size c.message) (same (drop c.size c.message) (drop c.size lent))

abbrev show_setpoint : Setpoint → Outcome
show_setpoint s = value s.code s.value

abbrev nexts : ℕ → Reader → List (List ℕ × ℕ)
nexts zero r = []
nexts (suc n) r = let a = next r in (a.part, a.reader.offset) ∷ nexts n a.reader

-- The buffers that a call writes hold 0xEE before it.
abbrev lent : ℕ → List ℕ
lent size = replicate size 0xEE

-- A call on an image, which is made once.
abbrev on_image : Input → List ℕ → Outcome
on_image (empty_on size) b = show_emptied (lent size) (empty (lent size))
on_image (deliver_to at m room) b = show_delivered b (lent room) (deliver b m (lent room))
on_image (compose_on at line size commands flag priority room) b =
    show_composed (lent room) (compose b (bytes size line) commands flag priority (lent room))
on_image (log_message_of at place) b = part (log_message b place) (log_message_code b place)
on_image (setpoint_of at tag) b = show_setpoint (setpoint b tag)
on_image (read_log at n) b = parts (start b).offset (nexts n (start b))
on_image (list input) b = printed (listing input)
on_image (print_log at) b = printed (printed_log b)

abbrev buffer_of : Input → Buffer
buffer_of (empty_on size) = none
buffer_of (deliver_to b m room) = b
buffer_of (compose_on b line size commands flag priority room) = b
buffer_of (log_message_of b place) = b
buffer_of (setpoint_of b tag) = b
buffer_of (read_log b n) = b
buffer_of (list input) = none
buffer_of (print_log b) = b

abbrev outcome_of : Input → Outcome
outcome_of i = on_image i (bytes_of (buffer_of i))

-- A refusal writes nothing, and its counts and length are 0.
abbrev refused_delivery : ℕ → Outcome
refused_delivery code = delivered code 0 0 (some []) true true

abbrev refused_compose : ℕ → Outcome
refused_compose code = composes code 0 [] true

-- compose with a right line and room: without the flag, and with it
abbrev compose_plain : Buffer → ℕ → List ℕ → Input
compose_plain b line commands = compose_on b line line_size commands 0 0 message_room

abbrev compose_urgent : Buffer → ℕ → ℕ → Input
compose_urgent b line priority = compose_on b line line_size right_commands 1 priority message_room

-- log A1, B1, and C2 held
abbrev station : Buffer
station = holding (a1 ∷ b1 ∷ c2 ∷ [])

examples : List (Input × Outcome)
examples =
    -- ---- code by code
    -- 1: image of 16,383; a step buffer, a message buffer or a line of wrong size
    (empty_on (image_size - 1), emptied 1 true)
    ∷ (empty_on image_size, emptied 0 false)
    ∷ (deliver_to short a1 step_room, refused_delivery 1)
    ∷ (deliver_to none a1 10159, refused_delivery 1)
    ∷ (compose_plain short line_a right_commands, refused_compose 1)
    ∷ (compose_on none line_a line_size right_commands 0 0 199, refused_compose 1)
    ∷ (compose_on none line_a 9 right_commands 0 0 message_room, refused_compose 1)
    ∷ (log_message_of short 0, part [] 1)
    ∷ (setpoint_of short 3, value 1 (pos 0))
    -- 2: L = 1, no message
    ∷ (deliver_to no_message a1 step_room, refused_delivery 2)
    ∷ (compose_plain no_message line_a right_commands, refused_compose 2)
    ∷ (log_message_of no_message 0, part [] 2)
    ∷ (setpoint_of no_message 3, value 2 (pos 0))
    ∷ (setpoint_of end_not_zero 3, value 2 (pos 0))
    -- A1, and the floor of its line at A1; with the floor at A1, A2 runs
    ∷ (setpoint_of (purged_to (A 1) (a1 ∷ [])) 3, value 2 (pos 0))
    ∷ (setpoint_of (purged_to (A 1) (a2 ∷ [])) 3, value 0 (pos 7))
    -- 3: 47-byte message; to compose, commands of 15 bytes and of none
    ∷ (deliver_to none (take 47 a1) step_room, refused_delivery 3)
    ∷ (compose_plain none line_a (take 15 (right_commands ++ right_commands)), refused_compose 3)
    ∷ (compose_plain none line_a [], refused_compose 3)
    -- 4: A0
    ∷ (deliver_to none (plain (A 0) [] right_commands) step_room, refused_delivery 4)
    -- 5: A2 naming A1
    ∷ (deliver_to none (plain (A 2) (A 1 ∷ []) right_commands) step_room, refused_delivery 5)
    -- 6: tag 64; to compose also a flag of 2, and a priority without the flag
    ∷ (deliver_to none (plain (A 1) [] (command 1 64 (pos 5))) step_room, refused_delivery 6)
    ∷ (compose_plain none line_a (command 1 64 (pos 5)), refused_compose 6)
    ∷ (compose_on none line_a line_size right_commands 2 0 message_room, refused_compose 6)
    ∷ (compose_on none line_a line_size right_commands 0 7 message_room, refused_compose 6)
    -- 7: A1 twice, values 1 and 2
    ∷ (deliver_to (holding (a1_value 1 ∷ [])) (a1_value 2) step_room, refused_delivery 7)
    -- 8: a 65th delta
    ∷ (deliver_to (holding (lines 2 64)) a2 step_room, refused_delivery 8)
    -- 9: A3 alone, compose on A
    ∷ (compose_plain (holding (plain (A 3) [] right_commands ∷ [])) line_a right_commands, refused_compose 9)
    -- 10: with priority, after block 2147483647
    ∷ (compose_urgent (holding (urgent (B 1) field_limit 5 right_commands ∷ [])) line_c 7, refused_compose 10)
    -- the floor of the line at AFFFF
    ∷ (compose_plain (purged_to (A 0xFFFF) []) line_a right_commands, refused_compose 10)
    -- 11: nine lone lines, a tenth composes
    ∷ (compose_plain (holding (lines 1 9)) line_a right_commands, refused_compose 11)
    -- 12: place 0 of an empty log; tag 64
    ∷ (log_message_of none 0, part [] 12)
    ∷ (setpoint_of none 64, value 12 (pos 0))
    -- ---- deliver: undos and executions apart, and every byte past the steps as it was, the 10,161st too
    ∷ (deliver_to (holding (b1 ∷ [])) a1 10161, delivered 0 1 2 (some (undo (B 1) ∷ execute (A 1) ∷ execute (B 1) ∷ [])) false true)
    -- at a floor: 0, no step, nothing written; but tag 64 there is 6
    ∷ (deliver_to (purged_to (A 1) (b1 ∷ [])) a1 step_room, delivered 0 0 0 (some []) true true)
    ∷ (deliver_to (purged_to (A 1) []) (plain (A 1) [] (command 1 64 (pos 5))) step_room, refused_delivery 6)
    -- ---- compose with the flag: block 1 on an empty log, 2 after block 1
    ∷ (compose_urgent none line_a 0, composes 0 48 (message_of true (A 1) 1 1 0 [] right_commands) true)
    ∷ (compose_urgent (holding (b1_5 ∷ [])) line_c 7, composes 0 60 (message_of true (C 1) 1 2 7 (B 1 ∷ []) right_commands) true)
    -- ---- log message and its second call: place 1 of the log A1, B1
    ∷ (log_message_of station 1, part b1 0)
    -- ---- setpoint: 1500 - 20 at tag 3
    ∷ (setpoint_of station 3, value 0 (pos 1480))
    -- ---- the reader: its start, two nexts and one past the end; then on buffers that answer 1 and 2
    ∷ (read_log station 3, parts 544 ((a1, 592) ∷ (b1, 640) ∷ ([], 640) ∷ []))
    ∷ (read_log short 1, parts 0 (([], 0) ∷ []))
    ∷ (read_log no_message 1, parts 544 (([], 544) ∷ []))
    -- ---- the listing. B1, A1: "1 0 0 1", "2 0 1 2", "log 2 held 0".
    ∷ (
      list (b1 ++ a1),
      printed (49 ∷ 32 ∷ 48 ∷ 32 ∷ 48 ∷ 32 ∷ 49 ∷ 10
          ∷ 50 ∷ 32 ∷ 48 ∷ 32 ∷ 49 ∷ 32 ∷ 50 ∷ 10
          ∷ 108 ∷ 111 ∷ 103 ∷ 32 ∷ 50 ∷ 32 ∷ 104 ∷ 101 ∷ 108 ∷ 100 ∷ 32 ∷ 48 ∷ 10 ∷ []),
    )
    -- A rest of five bytes: "1 3 0 0", "log 0 held 0".
    ∷ (
      list (1 ∷ 0 ∷ 0 ∷ 1 ∷ 0 ∷ []),
      printed (49 ∷ 32 ∷ 51 ∷ 32 ∷ 48 ∷ 32 ∷ 48 ∷ 10
          ∷ 108 ∷ 111 ∷ 103 ∷ 32 ∷ 48 ∷ 32 ∷ 104 ∷ 101 ∷ 108 ∷ 100 ∷ 32 ∷ 48 ∷ 10 ∷ []),
    )
    -- ---- `print_log`. "0 544 48 00000000000A000000010001 3 1500", "1 592 48 00000000000B000000010001 3 -20", and C2, held, is not printed.
    ∷ (
      print_log station,
      printed (48 ∷ 32 ∷ 53 ∷ 52 ∷ 52 ∷ 32 ∷ 52 ∷ 56 ∷ 32 ∷ replicate 11 48 ++ 65 ∷ replicate 7 48 ++ 49 ∷ 48 ∷ 48 ∷ 48 ∷ 49 ∷ 32 ∷ 51 ∷ 32 ∷ 49 ∷ 53 ∷ 48 ∷ 48 ∷ 10
          ∷ 49 ∷ 32 ∷ 53 ∷ 57 ∷ 50 ∷ 32 ∷ 52 ∷ 56 ∷ 32 ∷ replicate 11 48 ++ 66 ∷ replicate 7 48 ++ 49 ∷ 48 ∷ 48 ∷ 48 ∷ 49 ∷ 32 ∷ 51 ∷ 32 ∷ 45 ∷ 50 ∷ 48 ∷ 10 ∷ []),
    )
    -- an empty log, and the two refusals
    ∷ (print_log none, printed [])
    ∷ (print_log short, printed (49 ∷ 10 ∷ []))
    ∷ (print_log no_message, printed (50 ∷ 10 ∷ []))
    ∷ []

-- Every example has the outcome that stands beside it.
examples_hold : map (λ e. outcome_of e.0) examples ≡ map (λ e. e.1) examples
unfolding examples empty deliver deliver_code take_in compose compose_code log_message log_message_code setpoint start next listing lines_from bad_cut printed_line last_line printed_log log_line printed_command printed_value character_of offset_of composed new_dependencies is_image image_of used_of sections_of header_of values_of base_of floors_of messages_of messages_start messages_start_in floors_in base_in origin_in origin_right tops_right setpoints_of start_values log_of held_of executables_of needs read_record record_bytes records_of execution_of undo_of changes_of run_delta run_command apply change_of operate raise stop passes layout_right numbers_right dependencies_right content_right command_right
examples_hold = refl
