-- The sum is the definition's, of every buffer that has a header.
use mathlib.Core.Path.{ap}
use Prim.Native.Nat.{ℕ, ◌+◌, ◌*◌}
use borrow.Author.Rules.{rules}
use Rattle.model.specs.Layout.{sequence_size, floors_start}
use Rattle.model.specs.Image.{messages_start_in}
use Rattle.set_table.proofs.start.messages_start.Statement.{statement}
use Rattle.set_table.proofs.start.messages_start.Tie as tie

returns : tie.Need-returns
unfolding messages_start_in
returns c = ap (λ (n : ℕ). floors_start + sequence_size * n) c.count_floors.ensures.0

pub messages_start_spec : {M : Type 1} → statement M
messages_start_spec = tie.close (tie.spec (λ c κs. search rules) (λ c. search rules) (λ c. search rules) returns)
