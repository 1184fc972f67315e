-- Two bytes set one by one are the two digits of the number.
use native.Mathlib.Omega.{arith}
use mathlib.Core.Path.{◌≡◌}
use Prim.Native.Nat.{suc, ◌+◌, ◌/◌, ◌%◌}
use lib.ListN.{length-set}
use lib.Seq.{sets-eq}
use Rattle.model.specs.Bytes.{bytes}
use borrow.Author.Rules.{rules}
use Rattle.buffer_writes.proofs.put_u16.Statement.{statement}
use Rattle.buffer_writes.proofs.put_u16.Tie as tie

slice-write-s-2 : tie.Need-bounds-s-at-2
slice-write-s-2 c = simp length-set (omega arith)

returns : tie.Need-returns
returns c =
    let a = c.args in
    let next : a.at + 1 ≡ suc a.at = omega arith in
    let last : a.v % 256 ≡ a.v / 1 % 256 = omega arith in
    rw (next, last) (sets-eq (bytes 2 a.v) a.s.now a.at (omega arith))

pub put_u16_spec : {M : Type 1} → statement M
put_u16_spec =
    tie.close (tie.spec (λ c. search rules) (λ c. search rules) (λ c. search rules) (λ c. search rules) slice-write-s-2 (λ c. search rules) returns)
