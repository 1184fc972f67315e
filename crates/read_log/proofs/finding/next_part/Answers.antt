-- The checks run in the order of their codes; of an image the part is the message that was found, and without one it is empty.
use Rattle.std.specs.Prelude.{◌≡◌, true, List, ℕ, ◌+◌, ◌-◌, length, take, drop, eqb, T, Ok}
use Rattle.std.proofs.Common.{sym, ◌∙◌, ap, arith, eqb-true}
use Rattle.model.specs.Layout.{image_size}
use Rattle.model.specs.Image.{is_image}
use Rattle.model.specs.Codes.{lowest_code, read_conditions}
use Rattle.model.specs.Calls.{next_message}
use Rattle.refusals.specs.declared.Refusal.TheVariants.{WrongSize}
use Rattle.refusals.specs.Refusals.{checked, passed, failed}
use Rattle.laws_order.specs.TestLaws.{is_true}
use Rattle.laws_codes.specs.Ladder.{none, fails, passes}
use Rattle.read_search.specs.Finding.{starting_at}
use Rattle.read_log.specs.ReaderLaws.{next_told}
use Rattle.read_log.proofs.finding.next_part.Goals as goal

-- what the checks told
sized : (b : List ℕ) → Ok tt ≡ checked WrongSize (eqb (length b) image_size) → true ≡ eqb (length b) image_size
sized b e = sym (passed WrongSize (eqb (length b) image_size) e)

size_is : (b : List ℕ) → Ok tt ≡ checked WrongSize (eqb (length b) image_size) → length b ≡ image_size
size_is b e = eqb-true (length b) image_size (passed WrongSize (eqb (length b) image_size) e)

-- what is next of an image is what was looked for
next_is : (b : List ℕ) (offset : ℕ) → Ok tt ≡ checked WrongSize (eqb (length b) image_size) → T (is_image b)
    → starting_at b offset ≡ next_message (lowest_code (read_conditions b)) b offset
next_is b offset e i = next_told b offset (passes (sized b e) (passes (sym (is_true (is_image b) i)) none))

pub returns-in_default : goal.returns-in_default
returns-in_default c =
    let b = c.args.image.now in
    next_told b c.args.offset (fails (sym (failed WrongSize _ (eqb (length b) image_size) c.in_default.ensures)))

pub read_station-requires : goal.read_station-requires
read_station-requires c = size_is c.args.image.now c.in-Ok.ensures

pub returns-in_default-read_station : goal.returns-in_default-read_station
returns-in_default-read_station c =
    next_told c.args.image.now c.args.offset (passes (sized c.args.image.now c.in-Ok.ensures) (fails (sym c.in_default-read_station.ensures.1)))

pub find_message-requires : goal.find_message-requires
find_message-requires c =
    let station = c.in-Ok-read_station.ensures in
    record { sized = size_is c.args.image.now c.in-Ok.ensures; image = station.image; log = station.offsets }

pub returns-in_default-find_message : goal.returns-in_default-find_message
returns-in_default-find_message c =
    sym c.in_default-find_message.ensures ∙ next_is c.args.image.now c.args.offset c.in-Ok.ensures c.in-Ok-read_station.ensures.image

pub overflow_add-end : goal.overflow_add-end
overflow_add-end c = omega (arith, c.in-Some.ensures.inside)

pub returns : goal.returns
returns c =
    let b = c.args.image.now in
    let offset = c.args.offset in
    ap (λ (n : ℕ). take n (drop offset b)) {x = offset + c.in-Some.size - offset} {y = c.in-Some.size} (omega arith)
    ∙ c.in-Some.ensures.bytes ∙ next_is b offset c.in-Ok.ensures c.in-Ok-read_station.ensures.image
