-- One byte is the number of one byte.
use native.Mathlib.Omega.{arith}
use mathlib.Core.Path.{sym}
use Rattle.buffer_reads.specs.FieldLaws.{field_byte}
use borrow.Author.Rules.{rules}
use Rattle.buffer_reads.proofs.byte.Statement.{statement}
use Rattle.buffer_reads.proofs.byte.Tie as tie

cast-result : tie.Need-overflow_cast-result
cast-result c = omega (arith, c.shared_slice_known-1.given c.before.args.at)

returns : tie.Need-returns
returns c =
    let a = c.before.args in
    (sym (field_byte a.s.now a.at (omega arith)), omega (arith, c.shared_slice_known-1.given a.at))

pub byte_spec : {M : Type 1} → statement M
byte_spec = tie.close (tie.spec (λ c. search rules) cast-result returns)
