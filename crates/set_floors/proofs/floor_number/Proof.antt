-- A line's floor is the first that is not below the line's number 0000.
use mathlib.Core.Path.{◌≡◌, sym, ◌∙◌, ap}
use Prim.Native.Nat.{ℕ, ◌<◌}
use lib.Dec.{eqb}
use lib.ListN.{length, get_or}
use native.Mathlib.Omega.{arith}
use borrow.Author.Rules.{rules}
use borrow.Author.Tests.{eqb-true, eqb-false}
use Rattle.model.specs.Message.{line_of, number_of}
use Rattle.model.specs.Image.{floors_in, origin_in}
use Rattle.message_sequence.specs.Sequence.{sequence_number}
use Rattle.laws_origin.specs.OriginLaws.{floors_length, room_of}
use Rattle.set_floors.specs.FloorLaws.{floors_sorted, count_room, number_on_lem, number_off}
use Rattle.set_floors.proofs.floor_number.Statement.{statement}
use Rattle.set_floors.proofs.floor_number.Tie as tie

-- the call as it began, from where the search ended; and where it ended, from where a line was compared
abbrev start : tie.After-first_floor-p → tie.Start
start c = c.before.before.before

abbrev floor-of : tie.After-same_line → tie.Else-p-count
floor-of c = c.before.before

count-floors-requires : tie.Need-count_floors-count-requires
count-floors-requires c κs = let s = c.before in count_room s.args.pool.now s.requires.0

-- the count is the floors', and the place is one of theirs where it is another number
counted : (c : tie.After-first_floor-p) → c.count_floors-count.result ≡ length (floors_in (start c).args.pool.now)
counted c = c.count_floors-count.ensures.0 ∙ sym (floors_length (start c).args.pool.now)

inside : (c : tie.Else-p-count) → c.first_floor-p.result < length (floors_in (start c.before).args.pool.now)
inside c = omega (arith, counted c.before, c.first_floor-p.ensures.inside, c.if-p-count.false)

floor-at-requires : tie.Need-floor_at-floor-requires
floor-at-requires c κs =
    let s = start c.before in
    (room_of s.args.pool.now s.requires.0, omega (arith, inside c, floors_length s.args.pool.now))

returns : tie.Need-returns-then-p-count
unfolding origin_in
returns c =
    let f = c.before in
    let s = start f in
    let a = s.args in
    sym (number_off (floors_in a.pool.now) (floors_sorted a.pool.now s.requires.0) (sequence_number a.line) f.first_floor-p.result f.first_floor-p.ensures
    s.requires.1 (λ h e. omega (arith, counted f, c.if-p-count.true)))

-- whether the floor that was found is on the line
compared : (c : tie.After-same_line) → let f = (floor-of c).before in let a = (start f).args in
    c.same_line.result ≡ eqb (line_of (get_or (floors_in a.pool.now) f.first_floor-p.result 0)) (line_of (sequence_number a.line))
compared c =
    let a = (start (floor-of c).before).args in
    c.same_line.ensures ∙ ap (λ (x : ℕ). eqb (line_of x) (line_of (sequence_number a.line))) c.floor_at-floor.ensures

returns-2 : tie.Need-returns-then-same_line
unfolding origin_in
returns-2 c =
    let test = c.before in
    let read = test.before in
    let f = (floor-of read).before in
    let s = start f in
    let a = s.args in
    c.number_of.ensures ∙ ap number_of read.floor_at-floor.ensures
    ∙ sym (number_on_lem (floors_in a.pool.now) (floors_sorted a.pool.now s.requires.0) (sequence_number a.line) f.first_floor-p.result f.first_floor-p.ensures
    s.requires.1 (inside (floor-of read)) (eqb-true _ _ (sym (compared read) ∙ test.if-same_line.true)))

returns-3 : tie.Need-returns
unfolding origin_in
returns-3 c =
    let read = c.before in
    let f = (floor-of read).before in
    let s = start f in
    let a = s.args in
    sym (number_off (floors_in a.pool.now) (floors_sorted a.pool.now s.requires.0) (sequence_number a.line) f.first_floor-p.result f.first_floor-p.ensures
    s.requires.1 (λ h e. eqb-false _ _ (sym (compared read) ∙ c.if-same_line.false) e))

pub floor_number_spec : {M : Type 1} → statement M
floor_number_spec =
    tie.close
    (tie.spec
    count-floors-requires
    (λ c κs. search rules)
    returns
    floor-at-requires
    (λ c κs. search rules)
    (λ c κs. search rules)
    returns-2
    returns-3)
