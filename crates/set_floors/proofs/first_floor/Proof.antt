-- The invariant: the floors before `low` are below the sequence, those from `high` on are not.
use Prim.Native.Nat.{◌-◌, ◌≤◌}
use mathlib.Core.Path.{◌≡◌, sym, ◌∙◌, subst}
use mathlib.Core.List.{map}
use lib.Dec.{T}
use native.Mathlib.Omega.{arith}
use borrow.Author.Rules.{rules}
use Rattle.model.specs.Lists.{ascending}
use Rattle.model.specs.Layout.{most_floors}
use Rattle.model.specs.Message.{line_of}
use Rattle.model.specs.Image.{floors_in, origin_in}
use Rattle.message_sequence.specs.Sequence.{sequence_number}
use Rattle.laws_origin.specs.OriginLaws.{few_floors, floors_length, room_of}
use Rattle.set_floors.specs.Floors.{Halves}
use Rattle.set_floors.specs.FloorLaws.{floors_sorted, halves_first, halves_up, halves_down}
use Rattle.set_floors.proofs.first_floor.Statement.{statement}
use Rattle.set_floors.proofs.first_floor.Tie as tie

abbrev invariant-loop : tie.invariant-loop-low
invariant-loop pool count s low₀ high₀ low high = Halves (floors_in pool) (sequence_number s) low high

abbrev decreases-loop : tie.decreases-loop-low
decreases-loop pool count s low₀ high₀ low high = high - low

-- the turn in which a floor was compared, and the call as it began
abbrev turn : tie.After-less invariant-loop decreases-loop → tie.At-loop-low invariant-loop decreases-loop
turn c = c.before.before.before

abbrev start : tie.At-loop-low invariant-loop decreases-loop → tie.Start invariant-loop decreases-loop
start h = h.before.before

ascends : (c : tie.Start invariant-loop decreases-loop) → T (ascending (map line_of (floors_in c.args.pool.now)))
ascends c = floors_sorted c.args.pool.now c.requires.0

-- there are few floors, so that no place passes what a number of the machine can be
within : (h : tie.At-loop-low invariant-loop decreases-loop) → h.loop-low.high ≤ most_floors
unfolding origin_in
within h = omega (arith, h.loop-low.invariant.inside, few_floors (origin_in (start h).args.pool.now) (start h).requires.0)

loop-holds : tie.Need-loop-low-init invariant-loop decreases-loop
loop-holds c =
    let a = c.args in
    subst (Halves (floors_in a.pool.now) (sequence_number a.s) 0) (floors_length a.pool.now ∙ sym c.requires.1)
    (halves_first (floors_in a.pool.now) (sequence_number a.s))

floor-at-requires : tie.Need-floor_at-x-requires invariant-loop decreases-loop
floor-at-requires c κs =
    let s = start c.before in
    (room_of s.args.pool.now s.requires.0, omega (arith, c.loop-low.invariant.inside, floors_length s.args.pool.now))

add-middle : tie.Need-overflow_add-middle invariant-loop decreases-loop
add-middle c = omega (arith, within c.before)

add_low : tie.Need-overflow_add-low invariant-loop decreases-loop
add_low c = omega (arith, within (turn c.before))

loop-again : tie.Need-loop-low-preserved-then-less invariant-loop decreases-loop
loop-again c =
    let t = turn c.before in
    halves_up (floors_in (start t).args.pool.now) (ascends (start t)) (sequence_number (start t).args.s)
    t.loop-low.invariant (omega arith) c.floor_at-x.ensures c.less.ensures c.if-less.true

loop-again-2 : tie.Need-loop-low-preserved invariant-loop decreases-loop
loop-again-2 c =
    let t = turn c.before in
    halves_down (floors_in (start t).args.pool.now) (ascends (start t)) (sequence_number (start t).args.s)
    t.loop-low.invariant (omega arith) c.floor_at-x.ensures c.less.ensures c.if-less.false

returns : tie.Need-returns invariant-loop decreases-loop
returns c =
    let l = c.loop-low in
    let a = (start c.before).args in
    let e : l.high ≡ l.low = omega (arith, l.invariant.ordered) in
    subst (Halves (floors_in a.pool.now) (sequence_number a.s) l.low) e l.invariant

pub first_floor_spec : {M : Type 1} → statement M
first_floor_spec =
    tie.close
    (tie.spec
    invariant-loop
    decreases-loop
    loop-holds
    (λ c. omega arith)
    add-middle
    floor-at-requires
    (λ c κs. search rules)
    add_low
    (λ c. omega arith)
    loop-again
    (λ c. omega arith)
    loop-again-2
    returns)
