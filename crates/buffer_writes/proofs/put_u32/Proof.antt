-- The two halves, put one behind the other, are the four digits of the number.
use native.Mathlib.Omega.{arith}
use mathlib.Core.Path.{ap, ◌∙◌}
use mathlib.Core.List.{List}
use Prim.Native.Nat.{ℕ, ◌+◌}
use lib.Seq.{paste}
use Rattle.model.specs.Bytes.{bytes}
use Rattle.buffer_writes.specs.PasteLaws.{paste_halves}
use borrow.Author.Rules.{rules}
use Rattle.buffer_writes.proofs.put_u32.Statement.{statement}
use Rattle.buffer_writes.proofs.put_u32.Tie as tie

returns : tie.Need-returns
returns c =
    let b = c.before.before in
    let a = b.before.before.before.before.before.before.before.args in
    let first = b.before.before.before.before.put_u16.ensures in
    b.put_u16-2.ensures ∙ ap (λ (l : List ℕ). paste l (a.at + 2) (bytes 2 a.v) 2) first
    ∙ paste_halves a.s.now a.at 2 2 a.v (omega arith)

pub put_u32_spec : {M : Type 1} → statement M
put_u32_spec =
    tie.close (tie.spec (λ c κs. search rules) (λ c. search rules) (λ c κs. search rules) (λ c. search rules) returns)
