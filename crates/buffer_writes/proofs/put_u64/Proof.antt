-- The two halves, put one behind the other, are the eight digits of the number.
use native.Mathlib.Omega.{arith}
use mathlib.Core.Path.{ap, ◌∙◌}
use mathlib.Core.List.{List}
use Prim.Native.Nat.{ℕ, ◌+◌, ◌/◌, ◌%◌}
use lib.Seq.{paste}
use Rattle.model.specs.Bytes.{bytes}
use Rattle.buffer_reads.specs.FieldLaws.{bytes_low}
use Rattle.buffer_writes.specs.PasteLaws.{paste_halves}
use borrow.Author.Rules.{rules}
use Rattle.buffer_writes.proofs.put_u64.Statement.{statement}
use Rattle.buffer_writes.proofs.put_u64.Tie as tie

returns : tie.Need-returns
returns c =
    let b = c.before.before in
    let a = b.before.before.before.before.before.before.before.args in
    let first = b.before.before.before.before.put_u32.ensures in
    b.put_u32-2.ensures ∙ ap (λ (l : List ℕ). paste l (a.at + 4) (bytes 4 (a.v % 4294967296)) 4) first
    ∙ ap (λ (l : List ℕ). paste (paste a.s.now a.at (bytes 4 (a.v / 4294967296)) 4) (a.at + 4) l 4) (bytes_low 4 0 a.v)
    ∙ paste_halves a.s.now a.at 4 4 a.v (omega arith)

pub put_u64_spec : {M : Type 1} → statement M
put_u64_spec =
    tie.close
    (tie.spec
    (λ c. search rules)
    (λ c κs. search rules)
    (λ c. search rules)
    (λ c. search rules)
    (λ c κs. search rules)
    (λ c. search rules)
    returns)
