-- What only a whole image of 16,384 bytes shows: which buffers are an image (code 2), and log message with its second call.
use mathlib.Core.Path.{◌≡◌, refl}
use mathlib.Core.Bool.{Bool, false}
use mathlib.Core.List.{List, [], ◌∷◌, map}
use Prim.Native.Nat.{ℕ, ◌-◌}
use lib.ListN.{set}
use Rattle.model.specs.Layout.{image_size}
use Rattle.model.specs.Message.{layout_right, numbers_right, dependencies_right, content_right, command_right, passes}
use Rattle.model.specs.Tops.{tops_right}
use Rattle.model.specs.Order.{origin_right, state_of, needs, executables_of, log_of, held_of}
use Rattle.model.specs.Setpoints.{start_values, stop, raise, operate, change_of, apply, run_command, run_delta, setpoints_of}
use Rattle.model.specs.Image.{messages_start, messages_of, values_of, base_of, floors_of, header_of, sections_of, used_of, image_of, messages_start_in, floors_in, base_in, origin_in, is_image}
use Rattle.model.specs.Calls.{empty_state, log_message, log_message_code}
use Rattle.model.proofs.ExampleMessages.{a1, b1, c2}

-- ---- a buffer, and whether it is an image
abbrev no_deltas : List ℕ
no_deltas = image_of empty_state

buffers : List (List ℕ × Bool)
buffers =
    -- "L = 1, no message"
    (set no_deltas 1 1, false)
    -- "and zeros to the end": a last byte of 1
    ∷ (set no_deltas (image_size - 1) 1, false)
    ∷ []

buffers_hold : map (λ e. is_image e.0) buffers ≡ map (λ e. e.1) buffers
unfolding buffers is_image image_of messages_start_in floors_in base_in origin_in origin_right tops_right used_of sections_of header_of values_of base_of floors_of messages_of messages_start setpoints_of start_values run_delta run_command apply change_of operate raise stop log_of held_of executables_of needs passes layout_right numbers_right dependencies_right content_right command_right
buffers_hold = refl

-- ---- log message: a place of the log A1, B1, with C2 held; and its second call
abbrev station : List ℕ
station = image_of (state_of (a1 ∷ b1 ∷ c2 ∷ []))

second_place : log_message station 1 ≡ b1
unfolding log_message log_message_code is_image image_of messages_start_in floors_in base_in origin_in origin_right tops_right used_of sections_of header_of values_of base_of floors_of messages_of messages_start setpoints_of start_values run_delta run_command apply change_of operate raise stop log_of held_of executables_of needs passes layout_right numbers_right dependencies_right content_right command_right
second_place = refl

third_place : log_message_code station 2 ≡ 12
unfolding log_message_code is_image image_of messages_start_in floors_in base_in origin_in origin_right tops_right used_of sections_of header_of values_of base_of floors_of messages_of messages_start setpoints_of start_values run_delta run_command apply change_of operate raise stop log_of held_of executables_of needs passes layout_right numbers_right dependencies_right content_right command_right
third_place = refl
