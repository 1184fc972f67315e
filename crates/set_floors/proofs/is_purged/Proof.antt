-- The first floor that is not below the sequence is the only one that it can be at or below.
use mathlib.Core.Path.{◌≡◌, sym, ◌∙◌, ap}
use Prim.Native.Nat.{ℕ, ◌<◌}
use lib.Dec.{eqb}
use lib.ListN.{length}
use native.Mathlib.Omega.{arith}
use borrow.Author.Rules.{rules}
use Rattle.model.specs.Message.{line_of}
use Rattle.model.specs.Image.{floors_in, origin_in}
use Rattle.message_sequence.specs.Sequence.{sequence_number}
use Rattle.laws_origin.specs.OriginLaws.{floors_length, room_of}
use Rattle.set_floors.specs.FloorLaws.{count_room, floors_sorted, covered_by, covered_by_none}
use Rattle.set_floors.proofs.is_purged.Statement.{statement}
use Rattle.set_floors.proofs.is_purged.Tie as tie

-- the call as it began, from where the floor was found
abbrev start : tie.After-first_floor-p → tie.Start
start c = c.before.before.before

count-floors-requires : tie.Need-count_floors-count-requires
count-floors-requires c κs = let s = c.before in count_room s.args.pool.now s.requires

-- the count is the floors', and the place is one of theirs where it is another number
counted : (c : tie.After-first_floor-p) → c.count_floors-count.result ≡ length (floors_in (start c).args.pool.now)
counted c = c.count_floors-count.ensures.0 ∙ sym (floors_length (start c).args.pool.now)

inside : (c : tie.Else-p-count) → c.first_floor-p.result < length (floors_in (start c.before).args.pool.now)
inside c = omega (arith, counted c.before, c.first_floor-p.ensures.inside, c.if-p-count.false)

floor-at-requires : tie.Need-floor_at-floor-requires
floor-at-requires c κs =
    let s = start c.before in
    (room_of s.args.pool.now s.requires, omega (arith, inside c, floors_length s.args.pool.now))

returns : tie.Need-returns-then-p-count
unfolding origin_in
returns c =
    let f = c.before in
    let a = (start f).args in
    sym (covered_by_none (floors_in a.pool.now) (floors_sorted a.pool.now (start f).requires) (sequence_number a.s) f.first_floor-p.result f.first_floor-p.ensures
    (omega (arith, counted f, c.if-p-count.true)))

returns-2 : tie.Need-returns
unfolding origin_in
returns-2 c =
    let e = c.before.before in
    let f = e.before in
    let a = (start f).args in
    c.same_line.ensures ∙ ap (λ (x : ℕ). eqb (line_of x) (line_of (sequence_number a.s))) c.floor_at-floor.ensures
    ∙ sym (covered_by (floors_in a.pool.now) (floors_sorted a.pool.now (start f).requires) (sequence_number a.s) f.first_floor-p.result f.first_floor-p.ensures (inside e))

pub is_purged_spec : {M : Type 1} → statement M
is_purged_spec =
    tie.close
    (tie.spec
    count-floors-requires
    (λ c κs. search rules)
    returns
    floor-at-requires
    (λ c κs. search rules)
    returns-2)
