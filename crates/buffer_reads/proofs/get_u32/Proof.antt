-- A number of four bytes is split after the first two.
use native.Mathlib.Omega.{arith}
use Rattle.buffer_reads.specs.FieldLaws.{field_split}
use borrow.Author.Rules.{rules}
use Rattle.buffer_reads.proofs.get_u32.Statement.{statement}
use Rattle.buffer_reads.proofs.get_u32.Tie as tie

returns : tie.Need-returns
returns c =
    let a = c.before.before.before.args in
    let split = field_split a.s.now a.at 2 2 (omega arith) in
    omega arith

pub get_u32_spec : {M : Type 1} → statement M
get_u32_spec =
    tie.close
    (tie.spec (λ c κs. search rules) (λ c. search rules) (λ c. search rules) (λ c κs. search rules) (λ c. search rules) returns)
