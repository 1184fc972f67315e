-- The worked run of `model_runs` is one of the definitions' own calls: each of its answers, written there by hand, is what `deliver` gives to
-- the image as the last call left it, byte for byte.
use mathlib.Core.Path.{refl}
use Rattle.model.specs.Message.{layout_right, numbers_right, dependencies_right, content_right, command_right, passes}
use Rattle.model.specs.Tops.{tops_right}
use Rattle.model.specs.Order.{origin_right, take_in, needs, executables_of, log_of, held_of}
use Rattle.model.specs.Setpoints.{start_values, stop, raise, operate, change_of, apply, run_command, run_delta, changes_of, setpoints_of}
use Rattle.model.specs.Image.{messages_start, messages_of, values_of, base_of, floors_of, header_of, sections_of, used_of, image_of, messages_start_in, floors_in, base_in, origin_in, is_image}
use Rattle.model.specs.Steps.{execution_of, undo_of, records_of, record_bytes}
use Rattle.model.specs.Calls.{empty, empty_state, deliver, deliver_code}
use Rattle.model_runs.specs.Run.{Run, Begins, Answers}
use Rattle.model_runs.proofs.ExampleEvents.{given}
use Rattle.model_runs.proofs.RunExamples.{whole}

begins : Begins given (image_of empty_state)
unfolding empty
begins = (refl, refl)

answers : Run Answers (image_of empty_state) whole
unfolding deliver deliver_code take_in is_image image_of used_of sections_of header_of values_of base_of floors_of messages_of messages_start messages_start_in floors_in base_in origin_in origin_right tops_right setpoints_of start_values log_of held_of executables_of needs record_bytes records_of execution_of undo_of changes_of run_delta run_command apply change_of operate raise stop passes layout_right numbers_right dependencies_right content_right command_right
answers = (refl, (refl, (refl, (refl, (refl, (refl, (refl, tt)))))))
