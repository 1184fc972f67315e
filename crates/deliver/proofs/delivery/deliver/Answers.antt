-- Each check that refuses answers its code, and what passes all of them is taken in.
use Rattle.std.proofs.Common.{refl, not, length, eqb, eqb-true, ◌+◌, arith}
use Rattle.model.specs.Layout.{image_size, message_room}
use Rattle.model.specs.Message.{layout_right, numbers_right, dependencies_right, content_right}
use Rattle.model.specs.Codes.{small_steps}
use Rattle.model.specs.Image.{is_image}
use Rattle.laws_order.specs.TestLaws.{is_true}
use Rattle.refusals.specs.Refusals.{passed, failed}
use Rattle.refusals.specs.declared.Refusal.TheVariants.{WrongSize, WrongLayout, WrongNumber, WrongDependencies, WrongContent}
use Rattle.message_checks.proofs.Layouts.{dependencies_room, whole_length}
use Rattle.deliver.proofs.Refused.{wrong_image, wrong_steps, no_image, wrong_layout, wrong_number, wrong_dependencies, wrong_content, takeable}
use Rattle.deliver.proofs.delivery.deliver.Goals as goal

pub returns-in_default : goal.returns-in_default
returns-in_default c =
    wrong_image c.args.image.now c.args.message.now c.args.steps.now (failed WrongSize _ (eqb (length c.args.image.now) image_size) c.in_default.ensures)

pub returns-in_default-check_step_room : goal.returns-in_default-check_step_room
returns-in_default-check_step_room c =
    wrong_steps c.args.image.now c.args.message.now c.args.steps.now (passed WrongSize (eqb (length c.args.image.now) image_size) c.in-Ok.ensures)
    (failed WrongSize _ (not (small_steps (length c.args.steps.now))) c.in_default-check_step_room.ensures)

pub read_and_copy-requires : goal.read_and_copy-requires
read_and_copy-requires c =
    let size = passed WrongSize (eqb (length c.args.image.now) image_size) c.in-Ok.ensures in
    (eqb-true (length c.args.image.now) image_size size, record { count = image_size + message_room; zeros = refl; room = omega arith })

pub returns-in_default-read_and_copy : goal.returns-in_default-read_and_copy
returns-in_default-read_and_copy c =
    let size = passed WrongSize (eqb (length c.args.image.now) image_size) c.in-Ok.ensures in
    let room = passed WrongSize (not (small_steps (length c.args.steps.now))) c.in-Ok-check_step_room.ensures in
    no_image c.args.image.now c.args.message.now c.args.steps.now size room c.in_default-read_and_copy.ensures.0.1

pub returns-in_default-check_layout : goal.returns-in_default-check_layout
returns-in_default-check_layout c =
    let m = c.args.message.now in
    let size = passed WrongSize (eqb (length c.args.image.now) image_size) c.in-Ok.ensures in
    let room = passed WrongSize (not (small_steps (length c.args.steps.now))) c.in-Ok-check_step_room.ensures in
    let image = is_true (is_image c.args.image.now) c.in-Ok-read_and_copy.ensures.0.image in
    wrong_layout c.args.image.now m c.args.steps.now size room image (failed WrongLayout _ (layout_right m) c.in_default-check_layout.ensures)

pub check_numbers-requires : goal.check_numbers-requires
check_numbers-requires c =
    let m = c.args.message.now in
    dependencies_room m (passed WrongLayout (layout_right m) c.in-Ok-check_layout.ensures)

pub returns-in_default-check_numbers : goal.returns-in_default-check_numbers
returns-in_default-check_numbers c =
    let m = c.args.message.now in
    let size = passed WrongSize (eqb (length c.args.image.now) image_size) c.in-Ok.ensures in
    let room = passed WrongSize (not (small_steps (length c.args.steps.now))) c.in-Ok-check_step_room.ensures in
    let image = is_true (is_image c.args.image.now) c.in-Ok-read_and_copy.ensures.0.image in
    wrong_number c.args.image.now m c.args.steps.now size room image (passed WrongLayout (layout_right m) c.in-Ok-check_layout.ensures)
    (failed WrongNumber _ (numbers_right m) c.in_default-check_numbers.ensures)

pub check_dependencies-requires : goal.check_dependencies-requires
check_dependencies-requires c =
    let m = c.args.message.now in
    dependencies_room m (passed WrongLayout (layout_right m) c.in-Ok-check_layout.ensures)

pub returns-in_default-check_dependencies : goal.returns-in_default-check_dependencies
returns-in_default-check_dependencies c =
    let m = c.args.message.now in
    let size = passed WrongSize (eqb (length c.args.image.now) image_size) c.in-Ok.ensures in
    let room = passed WrongSize (not (small_steps (length c.args.steps.now))) c.in-Ok-check_step_room.ensures in
    let image = is_true (is_image c.args.image.now) c.in-Ok-read_and_copy.ensures.0.image in
    wrong_dependencies c.args.image.now m c.args.steps.now size room image (passed WrongLayout (layout_right m) c.in-Ok-check_layout.ensures)
    (passed WrongNumber (numbers_right m) c.in-Ok-check_numbers.ensures) (failed WrongDependencies _ (dependencies_right m) c.in_default-check_dependencies.ensures)

pub check_content-requires : goal.check_content-requires
check_content-requires c =
    let m = c.args.message.now in
    whole_length m (passed WrongLayout (layout_right m) c.in-Ok-check_layout.ensures)

pub returns-in_default-check_content : goal.returns-in_default-check_content
returns-in_default-check_content c =
    let m = c.args.message.now in
    let size = passed WrongSize (eqb (length c.args.image.now) image_size) c.in-Ok.ensures in
    let room = passed WrongSize (not (small_steps (length c.args.steps.now))) c.in-Ok-check_step_room.ensures in
    let image = is_true (is_image c.args.image.now) c.in-Ok-read_and_copy.ensures.0.image in
    wrong_content c.args.image.now m c.args.steps.now size room image (passed WrongLayout (layout_right m) c.in-Ok-check_layout.ensures)
    (passed WrongNumber (numbers_right m) c.in-Ok-check_numbers.ensures) (passed WrongDependencies (dependencies_right m) c.in-Ok-check_dependencies.ensures)
    (failed WrongContent _ (content_right m) c.in_default-check_content.ensures)

pub take_in-requires : goal.take_in-requires
take_in-requires c =
    let m = c.args.message.now in
    let size = passed WrongSize (eqb (length c.args.image.now) image_size) c.in-Ok.ensures in
    let room = passed WrongSize (not (small_steps (length c.args.steps.now))) c.in-Ok-check_step_room.ensures in
    let image = is_true (is_image c.args.image.now) c.in-Ok-read_and_copy.ensures.0.image in
    takeable c.args.image.now m c.args.steps.now size room image (passed WrongLayout (layout_right m) c.in-Ok-check_layout.ensures)
    (passed WrongNumber (numbers_right m) c.in-Ok-check_numbers.ensures) (passed WrongDependencies (dependencies_right m) c.in-Ok-check_dependencies.ensures)
    (passed WrongContent (content_right m) c.in-Ok-check_content.ensures) c.in-Ok-read_and_copy.ensures.0 c.read_and_copy.auto.copy c.in-Ok-read_and_copy.ensures.1
