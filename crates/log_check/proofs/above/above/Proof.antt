-- The key is above all from `end` on. Where it is above the one before `end`, it is above those that this one is above.
use Prim.Native.Nat.{ℕ, ◌+◌, ◌-◌, ◌≤◌, ◌<◌}
use mathlib.Core.Path.{◌≡◌, sym, ◌∙◌, subst}
use mathlib.Core.Logic.{⊎_elim}
use mathlib.Core.Bool.{not}
use mathlib.Core.List.{List}
use lib.ListN.{length, get_or}
use lib.Dec.{T, eqb, eqb→eq, ltb, ltb→lt, nltb→le}
use native.Mathlib.Omega.{arith}
use Rattle.model.specs.Order.{less}
use Rattle.laws_order.specs.TestLaws.{decide, not_eqb}
use Rattle.laws_order.specs.KeyOrder.{less_total}
use Rattle.log_key.specs.Key.{HasKey}
use Rattle.log_check.specs.Above.{key_at, Comparable}
use Rattle.log_check.proofs.above.above.Statement.{statement}
use Rattle.log_check.proofs.above.above.Tie as tie

-- above all from `end` on
abbrev From : List ℕ → List ℕ → ℕ → ℕ → Type 0
From keys places k end = (q : ℕ) → end ≤ q → q < k → T (less (key_at keys places q) (key_at keys places k))

abbrev invariant-loop : tie.invariant-loop-end
invariant-loop keys places froms from k last end₀ end = (end ≤ k) × From keys places k end

abbrev decreases-loop : tie.decreases-loop-end
decreases-loop keys places froms from k last end₀ end = end

-- where the call began, where the loop is entered, and where a turn of it compares
abbrev begun : tie.After-shared_slice_known-4-1 invariant-loop decreases-loop → tie.Start invariant-loop decreases-loop
begun c = c.before.before.before.before

abbrev entry : tie.At-loop-end invariant-loop decreases-loop → tie.Start invariant-loop decreases-loop
entry c = begun c.before

abbrev turn : tie.After-key_less invariant-loop decreases-loop → tie.At-loop-end invariant-loop decreases-loop
turn c = c.before.before.before

-- a place below the count has its key
has_key : (s : tie.Start invariant-loop decreases-loop) (q : ℕ) → q < length s.args.places.now → HasKey s.args.keys.now (get_or s.args.places.now q 0)
has_key s q h = omega (arith, s.requires.keyed, s.requires.small q h)

shared-slice-read-last : tie.Need-bounds-places-k invariant-loop decreases-loop
shared-slice-read-last c = omega (arith, c.before.before.before.before.requires.inside)

cast-last : tie.Need-overflow_cast-last invariant-loop decreases-loop
cast-last c = let s = begun c in omega (arith, s.requires.small s.args.k s.requires.inside)

loop-holds : tie.Need-loop-end-init invariant-loop decreases-loop
loop-holds c = (omega arith, λ q h r. let z : ⊥ = omega arith in absurd z)

shared-slice-read-earlier : tie.Need-bounds-places-q invariant-loop decreases-loop
shared-slice-read-earlier c = let s = entry c.before.before in omega (arith, s.requires.inside)

cast-earlier : tie.Need-overflow_cast-earlier invariant-loop decreases-loop
cast-earlier c =
    let s = entry c.before.before in
    omega (arith, s.requires.small (c.loop-end.end - 1) (omega (arith, s.requires.inside)))

key-less-requires : tie.Need-key_less-requires invariant-loop decreases-loop
key-less-requires c κs =
    let s = entry c.before.before in
    (has_key s (c.loop-end.end - 1) (omega (arith, s.requires.inside)), has_key s s.args.k s.requires.inside)

returns : tie.Need-returns-then-not-key_less invariant-loop decreases-loop
returns c =
    let l = turn c.before in
    (l.loop-end.end - 1, omega arith, omega arith, subst (λ (t : _). T (not t)) (sym (c.if-not-key_less.true) ∙ c.key_less.ensures) tt)

shared-slice-read-end : tie.Need-bounds-froms-q invariant-loop decreases-loop
shared-slice-read-end c = let l = turn c.before.before in omega (arith, (entry l).requires.room)

cast-end : tie.Need-overflow_cast-end invariant-loop decreases-loop
cast-end c = let l = turn c.before.before in omega (arith, (entry l).requires.below (l.loop-end.end - 1) (omega arith))

loop-less : tie.Need-loop-end-smaller invariant-loop decreases-loop
loop-less c = let l = turn c.before.before in omega (arith, (entry l).requires.below (l.loop-end.end - 1) (omega arith))

-- one more is compared, and those that it is above
more : (keys places froms : List ℕ) (k : ℕ) → Comparable keys places froms k → (q : ℕ) → q < k → From keys places k (q + 1)
    → T (less (key_at keys places q) (key_at keys places k)) → From keys places k (get_or froms q 0)
more keys places froms k c q h old t j low high = ⊎_elim
    (λ e. subst (λ (x : ℕ). T (less (key_at keys places x) (key_at keys places k))) (sym (eqb→eq j q e)) t)
    (λ e. ⊎_elim
    (λ b. less_total.trans (key_at keys places j) (key_at keys places q) (key_at keys places k) (c.sorted q h j low (ltb→lt j q b)) t)
    (λ b. let other : j ≡ q → ⊥ = not_eqb j q e in let up : q ≤ j = nltb→le j q b in old j (omega arith) high)
    (decide (ltb j q)))
    (decide (eqb j q))

loop-again : tie.Need-loop-end-preserved invariant-loop decreases-loop
loop-again c =
    let l = turn c.before.before in
    let s = entry l in
    let q : ℕ = l.loop-end.end - 1 in
    let old : From s.args.keys.now s.args.places.now s.args.k (q + 1) = λ j u v. l.loop-end.invariant.1 j (omega arith) v in
    (omega (arith, s.requires.below q (omega arith)), more s.args.keys.now s.args.places.now s.args.froms.now s.args.k s.requires q (omega arith) old (subst T (sym (c.if-not-key_less.false) ∙ c.key_less.ensures) tt))

returns-2 : tie.Need-returns invariant-loop decreases-loop
returns-2 c = λ q h r. c.loop-end.invariant.1 q (omega arith) r

pub above_spec : {M : Type 1} → statement M
above_spec =
    tie.close
    (tie.spec
    invariant-loop
    decreases-loop
    shared-slice-read-last
    cast-last
    loop-holds
    (λ c. omega arith)
    shared-slice-read-earlier
    cast-earlier
    key-less-requires
    returns
    shared-slice-read-end
    cast-end
    loop-less
    loop-again
    returns-2)
