-- The invariant: what is below `low` has lower sequences, what is from `high` on has higher ones.
use Prim.Native.Nat.{ℕ, ◌-◌, ◌<◌}
use mathlib.Core.Path.{sym, ◌∙◌}
use lib.ListN.{length}
use native.Mathlib.Omega.{arith}
use borrow.Author.Rules.{rules}
use borrow.Author.Tests.{eqb-true}
use Rattle.set_table.specs.Places.{sequence_in}
use Rattle.set_table.specs.PlaceLaws.{places_ascend}
use Rattle.message_sequence.specs.Sequence.{sequence_number}
use Rattle.message_sequence.specs.SearchLaws.{Narrows, narrows_first, narrows_up, narrows_down}
use Rattle.set_table.proofs.places.find.Statement.{statement}
use Rattle.set_table.proofs.places.find.Tie as tie

abbrev invariant-loop : tie.invariant-loop-low
invariant-loop pool starts s low₀ high₀ low high = Narrows (sequence_in pool starts) (length starts) (sequence_number s) low high

abbrev decreases-loop : tie.decreases-loop-low
decreases-loop pool starts s low₀ high₀ low high = high - low

-- the turn in which a sequence was read, its call, and what is then known of that sequence
abbrev turn : tie.After-sequence_at-x invariant-loop decreases-loop → tie.At-loop-low invariant-loop decreases-loop
turn c = c.before.before

abbrev start : tie.After-sequence_at-x invariant-loop decreases-loop → tie.Start invariant-loop decreases-loop
start c = (turn c).before.before.before

abbrev read : tie.After-less invariant-loop decreases-loop → tie.After-sequence_at-x invariant-loop decreases-loop
read c = c.before.before.before

ascends : (c : tie.After-sequence_at-x invariant-loop decreases-loop) (i j : ℕ) → i < j → j < length (start c).args.starts.now
    → sequence_in (start c).args.pool.now (start c).args.starts.now i < sequence_in (start c).args.pool.now (start c).args.starts.now j
ascends c = places_ascend (start c).args.pool.now (start c).args.starts.now (start c).requires

returns : tie.Need-returns-then-equal invariant-loop decreases-loop
returns c = record { inside = omega arith; here = sym c.sequence_at-x.ensures ∙ eqb-true _ _ (sym c.equal.ensures ∙ c.if-equal.true) }

loop-again : tie.Need-loop-low-preserved-then-less invariant-loop decreases-loop
loop-again c =
    let r = read c.before in
    narrows_up (turn r).loop-low.invariant (ascends r) (omega arith) (sym r.sequence_at-x.ensures) c.less.ensures c.if-less.true

loop-again-2 : tie.Need-loop-low-preserved invariant-loop decreases-loop
loop-again-2 c =
    let r = read c.before in
    narrows_down (turn r).loop-low.invariant (ascends r) (omega arith) (sym r.sequence_at-x.ensures) c.less.ensures c.if-less.false
    c.equal.ensures c.if-equal.false

returns-2 : tie.Need-returns invariant-loop decreases-loop
returns-2 c =
    let l = c.loop-low in
    record { inside = omega arith; before = l.invariant.before; after = λ k p q. l.invariant.after k (omega arith) q }

pub find_spec : {M : Type 1} → statement M
find_spec =
    tie.close
    (tie.spec
    invariant-loop
    decreases-loop
    (λ c. narrows_first _ _ _)
    (λ c. omega arith)
    (λ c. omega arith)
    (λ c κs. (c.requires, omega arith))
    (λ c κs. search rules)
    returns
    (λ c κs. search rules)
    (λ c. omega arith)
    (λ c. omega arith)
    loop-again
    (λ c. omega arith)
    loop-again-2
    returns-2)
