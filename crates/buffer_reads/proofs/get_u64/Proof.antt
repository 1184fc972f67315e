-- A number of eight bytes is split after the first four, and each half after two.
use native.Mathlib.Omega.{arith}
use Rattle.buffer_reads.specs.FieldLaws.{field_quarters}
use borrow.Author.Rules.{rules}
use Rattle.buffer_reads.proofs.get_u64.Statement.{statement}
use Rattle.buffer_reads.proofs.get_u64.Tie as tie

returns : tie.Need-returns
returns c =
    let a = c.before.before.before.before.before.args in
    field_quarters a.s.now a.at (omega arith)
    c.before.before.before.get_u16-a.ensures.0
    c.before.before.get_u16-b.ensures.0
    c.before.get_u16-c.ensures.0
    c.get_u16-d.ensures.0

pub get_u64_spec : {M : Type 1} → statement M
get_u64_spec =
    tie.close
    (tie.spec
    (λ c κs. search rules)
    (λ c. search rules)
    (λ c. search rules)
    (λ c κs. search rules)
    (λ c. search rules)
    (λ c. search rules)
    (λ c κs. search rules)
    (λ c. search rules)
    (λ c. search rules)
    (λ c κs. search rules)
    (λ c. search rules)
    (λ c. search rules)
    (λ c. search rules)
    (λ c. search rules)
    (λ c. search rules)
    (λ c. search rules)
    (λ c. search rules)
    returns)
