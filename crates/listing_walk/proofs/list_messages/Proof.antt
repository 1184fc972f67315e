-- The invariant: the lines that are printed, with those of the messages that are left, are all.
use mathlib.Core.Path.{◌∙◌, sym, subst}
use mathlib.Core.List.{List}
use Prim.Native.Nat.{ℕ, ◌+◌, ◌-◌, ◌≤◌}
use native.Mathlib.Omega.{arith}
use lib.ListN.{length, drop, length-drop}
use borrow.Author.Rules.{rules}
use Rattle.listing_cut.specs.Cut.{IsCut, RightCut}
use Rattle.listing_walk.specs.Walked.{Walked}
use Rattle.listing_walk.specs.WalkLaws.{rest_is, walk_begin, walk_on, walk_wrong, walk_end}
use Rattle.listing_walk.proofs.list_messages.Statement.{statement}
use Rattle.listing_walk.proofs.list_messages.Tie as tie

abbrev invariant-loop : tie.invariant-loop-from
invariant-loop input image₀ out₀ number₀ from₀ at₀ image out number from at = Walked input image₀ out₀ image out number from at

abbrev decreases-loop : tie.decreases-loop-from
decreases-loop input image₀ out₀ number₀ from₀ at₀ image out number from at = length input - from

-- the call as it began; the head of the loop, from where the cut is read
abbrev start : tie.At-loop-from invariant-loop decreases-loop → tie.Start invariant-loop decreases-loop
start h = h.before.before.before.before

abbrev turn : tie.After-read_cut-cut invariant-loop decreases-loop → tie.At-loop-from invariant-loop decreases-loop
turn c = c.before.before.before

-- the rest of the input at the head of the loop
abbrev rest : tie.At-loop-from invariant-loop decreases-loop → List ℕ
rest h = drop h.loop-from.from (start h).args.input.now

cut_of : (c : tie.After-read_cut-cut invariant-loop decreases-loop) → IsCut (rest (turn c)) c.read_cut-cut.result
cut_of c = subst (λ (l : List ℕ). IsCut l c.read_cut-cut.result) (rest_is (start (turn c)).args.input.now (turn c).loop-from.from) c.read_cut-cut.ensures

right_cut : (c : tie.In-Some invariant-loop decreases-loop) → RightCut (rest (turn c.before)) c.in-Some.size
right_cut c = subst (IsCut (rest (turn c.before))) c.in-Some.is (cut_of c.before)

-- the message ends within the input
ends : (c : tie.In-Some invariant-loop decreases-loop) → (turn c.before).loop-from.from + c.in-Some.size ≤ length (start (turn c.before)).args.input.now
ends c =
    let h = turn c.before in
    omega (arith, (right_cut c).inside, length-drop h.loop-from.from (start h).args.input.now, h.loop-from.invariant.inside)

-- where the cut was read, from where its message is listed
abbrev cut-before : tie.After-slice_known-in-loop-from-2-1 invariant-loop decreases-loop → tie.In-Some invariant-loop decreases-loop
cut-before c = c.before.before.before.before.before.before.before.before

loop-holds : tie.Need-loop-from-init invariant-loop decreases-loop
loop-holds c = walk_begin c.args.input.now c.args.image.now c.args.out.now c.requires.0 c.requires.1

put-wrong-cut-requires : tie.Need-put_wrong_cut-requires invariant-loop decreases-loop
put-wrong-cut-requires c κs =
    let w = (turn c.before.before).loop-from.invariant in
    (omega (arith, w.room), w.image_size_lem)

same_length : tie.Need-shape_of-image-in_default invariant-loop decreases-loop
same_length c = (turn c.before.before.before.before.before).loop-from.invariant.image_size_lem ∙ sym (start (turn c.before.before.before.before.before)).requires.0

same-length-2 : tie.Need-shape_of-out-in_default invariant-loop decreases-loop
same-length-2 c =
    c.put_wrong_cut.auto.out ∙ (turn c.before.before.before.before.before).loop-from.invariant.out_size

returns : tie.Need-returns-in_default invariant-loop decreases-loop
returns c =
    let h = turn c.before.before.before.before.before in
    walk_wrong h.loop-from.invariant c.loop-from-test.true
    (subst (IsCut (rest h)) c.in_default.is (cut_of c.before.before.before.before.before))
    c.put_wrong_cut.ensures

add-end : tie.Need-overflow_add-end invariant-loop decreases-loop
add-end c = omega (arith, ends c, (start (turn c.before)).well_formed.0.0)

part-list-message-end : tie.Need-slice_bounds-list_message-end invariant-loop decreases-loop
part-list-message-end c = omega (arith, ends c.before)

list-message-requires : tie.Need-list_message-at-requires invariant-loop decreases-loop
list-message-requires c κs = omega (arith, (turn c.before.before.before.before).loop-from.invariant.room)

add-number : tie.Need-overflow_add-number invariant-loop decreases-loop
add-number c =
    let h = turn (cut-before c).before in
    omega (arith, h.loop-from.invariant.counted, (start h).well_formed.0)

loop-less : tie.Need-loop-from-smaller invariant-loop decreases-loop
loop-less c = omega (arith, ends (cut-before c), (right_cut (cut-before c)).short)

loop-again : tie.Need-loop-from-preserved invariant-loop decreases-loop
loop-again c =
    let cut = cut-before c in
    let h = turn cut.before in
    walk_on h.loop-from.invariant cut.loop-from-test.true (right_cut cut)
    c.list_message-at.ensures c.list_message-at.auto.image c.list_message-at.auto.out

put-last-requires : tie.Need-put_last-requires invariant-loop decreases-loop
put-last-requires c κs =
    let w = c.loop-from.invariant in
    (omega (arith, w.room), w.image_size_lem)

same-length-3 : tie.Need-shape_of-image invariant-loop decreases-loop
same-length-3 c =
    c.loop-from.invariant.image_size_lem ∙ sym (start c.before.before.before.before.before).requires.0

same-length-4 : tie.Need-shape_of-out invariant-loop decreases-loop
same-length-4 c =
    c.put_last.auto.out ∙ c.loop-from.invariant.out_size

returns-2 : tie.Need-returns invariant-loop decreases-loop
returns-2 c =
    walk_end c.loop-from.invariant c.loop-from-test.false c.put_last.ensures

pub list_messages_spec : {M : Type 1} → statement M
list_messages_spec =
    tie.close
    (tie.spec
    invariant-loop
    decreases-loop
    loop-holds
    (λ c. omega arith)
    (λ c. omega arith)
    (λ c. omega arith)
    (λ c κs. search rules)
    (λ c. search rules)
    (λ c. search rules)
    put-wrong-cut-requires
    same_length
    same-length-2
    returns
    add-end
    (λ c. omega arith)
    (λ c. omega arith)
    part-list-message-end
    list-message-requires
    add-number
    loop-less
    loop-again
    put-last-requires
    same-length-3
    same-length-4
    returns-2)
