-- The worked run with purges of `model_runs` is one of the definitions' own calls; and every code of a purge.
use mathlib.Core.Path.{◌≡◌, refl}
use mathlib.Core.Bool.{Bool, true, false}
use mathlib.Core.List.{List, [], ◌∷◌, ◌++◌, map}
use Prim.Native.Nat.{ℕ, ◌-◌}
use lib.ListN.{take}
use Rattle.model.specs.Lists.{same}
use Rattle.model.specs.Layout.{image_size}
use Rattle.model.specs.Message.{layout_right, numbers_right, dependencies_right, content_right, command_right, passes}
use Rattle.model.specs.Tops.{tops_right}
use Rattle.model.specs.Order.{origin_right, take_in, sequences_of, needs, executables_of, log_of, held_of}
use Rattle.model.specs.Setpoints.{start_values, stop, raise, operate, change_of, apply, run_command, run_delta, changes_of, setpoints_of}
use Rattle.model.specs.Purge.{origin_past, purge_first}
use Rattle.model.specs.Image.{messages_start, messages_of, values_of, base_of, floors_of, header_of, sections_of, used_of, image_of, messages_start_in, floors_in, base_in, origin_in, is_image}
use Rattle.model.specs.Steps.{execution_of, undo_of, records_of, record_bytes}
use Rattle.model.specs.Calls.{empty_state, deliver, deliver_code, purge, purge_code}
use Rattle.model_runs.specs.Run.{Run, Answers}
use Rattle.model.proofs.ExampleMessages.{a1, b1, c2, lines, holding, origin, after}
use Rattle.model_runs.proofs.PurgeRunExamples.{whole}

-- ---- the worked run: each answer, written there by hand, is what `deliver` and `purge` give to the image as the last call left it
answers : Run Answers (image_of empty_state) whole
unfolding deliver deliver_code purge purge_code purge_first origin_past take_in is_image image_of used_of sections_of header_of values_of base_of floors_of messages_of messages_start messages_start_in floors_in base_in origin_in origin_right tops_right setpoints_of start_values log_of held_of executables_of needs record_bytes records_of execution_of undo_of changes_of run_delta run_command apply change_of operate raise stop passes layout_right numbers_right dependencies_right content_right command_right
answers = (refl, (refl, (refl, (refl, (refl, (refl, (refl, tt)))))))

-- ---- every code: a buffer and K; the code, and whether the buffer is as it was
abbrev station : List ℕ
station = image_of (holding (a1 ∷ b1 ∷ c2 ∷ []))

abbrev floored : List ℕ
floored = image_of (after (origin (sequences_of (lines 1 31)) 0 1) (a1 ∷ b1 ∷ []))

calls : List ((List ℕ × ℕ) × (ℕ × Bool))
calls =
    -- "image of 16,383"; a last byte of 1
    ((take (image_size - 1) station, 3), (1, true))
    ∷ ((take (image_size - 1) station ++ 1 ∷ [], 3), (2, true))
    -- more than the log; all of it; none
    ∷ ((station, 3), (15, true))
    ∷ ((station, 2), (0, false))
    ∷ ((station, 0), (0, true))
    -- 33 floors would result, and 32
    ∷ ((floored, 2), (16, true))
    ∷ ((floored, 1), (0, false))
    ∷ []

abbrev outcome : List ℕ → ℕ → ℕ × Bool
outcome b K = let a = purge b K in (a.code, same a.image b)

calls_hold : map (λ e. outcome e.0.0 e.0.1) calls ≡ map (λ e. e.1) calls
unfolding calls deliver deliver_code purge purge_code purge_first origin_past take_in is_image image_of used_of sections_of header_of values_of base_of floors_of messages_of messages_start messages_start_in floors_in base_in origin_in origin_right tops_right setpoints_of start_values log_of held_of executables_of needs record_bytes records_of execution_of undo_of changes_of run_delta run_command apply change_of operate raise stop passes layout_right numbers_right dependencies_right content_right command_right
calls_hold = refl
