-- The dependencies stand end to end past the header, each of a sequence's size.
use native.Mathlib.Omega.{arith}
use mathlib.Core.Path.{sym, ◌∙◌}
use Rattle.message_dependencies.specs.DependencyLaws.{dependency_at}
use borrow.Author.Rules.{rules}
use Rattle.message_dependencies.proofs.dependency.Statement.{statement}
use Rattle.message_dependencies.proofs.dependency.Tie as tie

returns : tie.Need-returns
returns c = let a = c.args in c.read_sequence.ensures ∙ sym (dependency_at a.m.now a.k (omega arith))

pub dependency_spec : {M : Type 1} → statement M
dependency_spec =
    tie.close (tie.spec (λ c. search rules) (λ c. search rules) (λ c κs. search rules) returns)
