-- The checks run in the order of their codes, and each tells what the definition's case asks for; what is left is the value's bytes.
use Rattle.std.specs.Prelude.{◌≡◌, true, not, List, ℕ, length, eqb, leb, Ok}
use Rattle.std.proofs.Common.{sym, ◌∙◌, ap, w32, eqb-true}
use Rattle.std.proofs.Math.Facts.{to_z-of_z}
use Rattle.std.proofs.lemmas.Bool.{not-false}
use Rattle.model.specs.Bytes.{integer}
use Rattle.model.specs.Layout.{image_size, tag_count}
use Rattle.model.specs.Image.{is_image}
use Rattle.refusals.specs.declared.Refusal.TheVariants.{WrongSize, NoImage, NotThere}
use Rattle.refusals.specs.Refusals.{checked, passed, failed}
use Rattle.laws_codes.specs.Ladder.{met, fails, passes}
use Rattle.read_calls.specs.ValueCases.{value_told, value_there}
use Rattle.read_calls.proofs.setpoint.setpoint.Goals as goal

-- what the checks told
sized : (b : List ℕ) → Ok tt ≡ checked WrongSize (eqb (length b) image_size) → true ≡ eqb (length b) image_size
sized b e = sym (passed WrongSize (eqb (length b) image_size) e)

judged : (b : List ℕ) → Ok tt ≡ checked NoImage (is_image b) → true ≡ is_image b
judged b e = sym (passed NoImage (is_image b) e)

named : (tag : ℕ) → Ok tt ≡ checked NotThere (not (leb tag_count tag)) → true ≡ not (leb tag_count tag)
named tag e = sym (passed NotThere (not (leb tag_count tag)) e)

pub returns-in_default : goal.returns-in_default
returns-in_default c =
    let b = c.args.image.now in
    value_told b c.args.tag (fails (sym (failed WrongSize _ (eqb (length b) image_size) c.in_default.ensures)))

pub check_image-requires : goal.check_image-requires
check_image-requires c = let b = c.args.image.now in eqb-true (length b) image_size (sym (sized b c.in-Ok.ensures))

pub returns-in_default-check_image : goal.returns-in_default-check_image
returns-in_default-check_image c =
    let b = c.args.image.now in
    value_told b c.args.tag (passes (sized b c.in-Ok.ensures) (fails (sym (failed NoImage _ (is_image b) c.in_default-check_image.ensures))))

pub returns-in_default-check_tag : goal.returns-in_default-check_tag
returns-in_default-check_tag c =
    let b = c.args.image.now in
    let past = not-false _ (failed NotThere _ (not (leb tag_count c.args.tag)) c.in_default-check_tag.ensures) in
    value_told b c.args.tag (passes (sized b c.in-Ok.ensures) (passes (judged b c.in-Ok-check_image.ensures) (met past)))

pub returns : goal.returns
returns c =
    let b = c.args.image.now in
    value_there b c.args.tag (sized b c.in-Ok.ensures) (judged b c.in-Ok-check_image.ensures) (named c.args.tag c.in-Ok-check_tag.ensures) _
    (to_z-of_z {w = w32} {z = c.of_word-value.result} (record { sfits = c.of_word-value.type_inv }) ∙ c.of_word-value.ensures ∙ ap integer c.get_u32.ensures)
