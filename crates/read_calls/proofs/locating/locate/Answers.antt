-- The checks run in the order of their codes, and each tells what the definition's case asks for; what is left lies at the offset that the walk wrote down.
use Rattle.std.specs.Prelude.{◌≡◌, true, not, List, ℕ, ◌+◌, ◌≤◌, ◌<◌, length, get_or, eqb, leb, T, Ok}
use Rattle.std.proofs.Common.{sym, arith, eqb-true}
use Rattle.std.proofs.lemmas.Bool.{not-false}
use Rattle.model.specs.Layout.{header_size, image_size}
use Rattle.model.specs.Image.{is_image, log_count, message_offset}
use Rattle.refusals.specs.declared.Refusal.TheVariants.{WrongSize, NotThere}
use Rattle.refusals.specs.Refusals.{checked, passed, failed}
use Rattle.laws_order.specs.TestLaws.{is_true}
use Rattle.laws_codes.specs.Ladder.{met, fails, passes}
use Rattle.image_listed.specs.declared.Station.{Station}
use Rattle.image_judged.specs.Judging.{IsStation}
use Rattle.image_judged.specs.JudgingLaws.{place_offset}
use Rattle.read_calls.proofs.PartCases.{part_told, below, place_inside, part_at}
use Rattle.read_calls.proofs.locating.locate.Goals as goal

-- what the checks told
sized : (b : List ℕ) → Ok tt ≡ checked WrongSize (eqb (length b) image_size) → true ≡ eqb (length b) image_size
sized b e = sym (passed WrongSize (eqb (length b) image_size) e)

judged : (b : List ℕ) → T (is_image b) → true ≡ is_image b
judged b i = sym (is_true (is_image b) i)

placed : (b : List ℕ) (place : ℕ) → Ok tt ≡ checked NotThere (not (leb (log_count b) place)) → true ≡ not (leb (log_count b) place)
placed b place e = sym (passed NotThere (not (leb (log_count b) place)) e)

-- a place of the log has its offset, behind which a message has room
module _ (b : List ℕ) (place : ℕ) (r : Station) (station : IsStation b r) (size : true ≡ eqb (length b) image_size) (log : true ≡ not (leb (log_count b) place)) where
  within : place < r.logged
  within = omega (arith, below b place size (judged b station.image) log, station.count)

  starts : get_or r.offsets place 0 ≡ message_offset b place
  starts = place_offset b r station place (below b place size (judged b station.image) log)

  inside : get_or r.offsets place 0 + header_size ≤ length b
  inside = omega (arith, place_inside b place size (judged b station.image) log, starts)

pub returns-in_default : goal.returns-in_default
returns-in_default c =
    let b = c.args.image.now in
    part_told b c.args.place (fails (sym (failed WrongSize _ (eqb (length b) image_size) c.in_default.ensures)))

pub read_station-requires : goal.read_station-requires
read_station-requires c = let b = c.args.image.now in eqb-true (length b) image_size (sym (sized b c.in-Ok.ensures))

pub returns-in_default-read_station : goal.returns-in_default-read_station
returns-in_default-read_station c =
    let b = c.args.image.now in
    part_told b c.args.place (passes (sized b c.in-Ok.ensures) (fails (sym c.in_default-read_station.ensures.1)))

pub check_place-requires : goal.check_place-requires
check_place-requires c = let b = c.args.image.now in eqb-true (length b) image_size (sym (sized b c.in-Ok.ensures))

pub returns-in_default-check_place : goal.returns-in_default-check_place
returns-in_default-check_place c =
    let b = c.args.image.now in
    let past = not-false _ (failed NotThere _ (not (leb (log_count b) c.args.place)) c.in_default-check_place.ensures) in
    part_told b c.args.place (passes (sized b c.in-Ok.ensures) (passes (judged b c.in-Ok-read_station.ensures.image) (met past)))

pub get_u16-size-requires : goal.get_u16-size-requires
get_u16-size-requires c =
    omega (arith, inside c.args.image.now c.args.place c.in-Ok-read_station.station c.in-Ok-read_station.ensures (sized c.args.image.now c.in-Ok.ensures) (placed c.args.image.now c.args.place c.in-Ok-check_place.ensures))

pub returns : goal.returns
returns c =
    let b = c.args.image.now in
    let place = c.args.place in
    let size = sized b c.in-Ok.ensures in
    let log = placed b place c.in-Ok-check_place.ensures in
    part_at b place size (judged b c.in-Ok-read_station.ensures.image) log (starts b place c.in-Ok-read_station.station c.in-Ok-read_station.ensures size log) c.get_u16-size.ensures.0
