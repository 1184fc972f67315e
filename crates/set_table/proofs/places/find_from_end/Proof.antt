-- A sequence above that of the last message is above all of them, for they ascend.
use Prim.Native.Nat.{ℕ, ◌-◌, ◌<◌}
use mathlib.Core.Path.{sym, ◌∙◌}
use lib.ListN.{length}
use native.Mathlib.Omega.{arith}
use borrow.Author.Rules.{rules}
use borrow.Author.Tests.{ltb-true}
use Rattle.laws_order.specs.ScanLaws.{lower_before}
use Rattle.message_sequence.specs.Sequence.{sequence_number}
use Rattle.set_table.specs.Places.{sequence_in}
use Rattle.set_table.specs.PlaceLaws.{places_ascend}
use Rattle.set_table.proofs.places.find_from_end.Statement.{statement}
use Rattle.set_table.proofs.places.find_from_end.Tie as tie

returns-2 : tie.Need-returns-then-less
returns-2 c =
    let compared = c.before in
    let read = compared.before in
    let s = read.before.before.before.before in
    let a = s.args in
    let f : ℕ → ℕ = sequence_in a.pool.now a.starts.now in
    let n : ℕ = length a.starts.now in
    let lower : sequence_number read.sequence_at-last.result < sequence_number a.s = ltb-true _ _ (sym compared.less.ensures ∙ c.if-less.true) in
    let all = lower_before f n (places_ascend a.pool.now a.starts.now s.requires) (sequence_number a.s) (n - 1) (omega arith) (omega (arith, read.sequence_at-last.ensures)) in
    record { inside = omega arith; before = λ k q. all k (omega arith); after = λ k p q. let z : ⊥ = omega arith in absurd z }

pub find_from_end_spec : {M : Type 1} → statement M
find_from_end_spec =
    tie.close
    (tie.spec
    (λ c. search rules)
    (λ c. search rules)
    (λ c κs. search rules)
    (λ c κs. search rules)
    returns-2
    (λ c κs. search rules)
    (λ c. search rules))
