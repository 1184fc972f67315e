-- The word is that of the value.
use mathlib.Core.Path.{◌≡◌}
use native.Mathlib.Omega.{arith}
use mir.Facts.{to_z-of_z}
use borrow.Author.Rules.{rules}
use Rattle.model.specs.Bytes.{word}
use Rattle.bivamolune_packing.proofs.reads.pack_value.Statement.{statement}
use Rattle.bivamolune_packing.proofs.reads.pack_value.Tie as tie

returns : tie.Need-returns
returns c =
    let e : c.to_word.result ≡ word c.args.value = simp (to_z-of_z c.ranges.value) at c.to_word.ensures in
    omega (arith, e)

pub pack_value_spec : {M : Type 1} → statement M
pack_value_spec = tie.close (tie.spec (λ c κs. search rules) (λ c. search rules) (λ c. search rules) returns)
