-- Each byte is written behind the one before it.
use mathlib.Core.Path.{◌∙◌, ap}
use mathlib.Core.List.{List, [], ◌∷◌}
use Prim.Native.Nat.{ℕ}
use Rattle.model.specs.Layout.{priority_flag_at, dependency_count_at, command_count_at}
use Rattle.image_header.specs.Pieces.{pasted}
use Rattle.compose_header.specs.NumberLaws.{counts_pasted}
use borrow.Author.Rules.{rules}
use Rattle.compose_header.proofs.put_counts.Statement.{statement}
use Rattle.compose_header.proofs.put_counts.Tie as tie

returns : tie.Need-returns
returns c =
    let a = c.args in
    c.put_byte-4.ensures
    ∙ ap (λ (b : List ℕ). pasted b command_count_at (a.commands ∷ []))
    (c.put_byte-3.ensures
    ∙ ap (λ (b : List ℕ). pasted b dependency_count_at (a.dependencies ∷ []))
    (c.put_byte-2.ensures ∙ ap (λ (b : List ℕ). pasted b priority_flag_at (a.flag ∷ [])) c.put_byte.ensures))
    ∙ counts_pasted a.message.now c.requires.0 a.flag a.dependencies a.commands

pub put_counts_spec : {M : Type 1} → statement M
put_counts_spec =
    tie.close
    (tie.spec
    (λ c κs. search rules)
    (λ c κs. search rules)
    (λ c. search rules)
    (λ c κs. search rules)
    (λ c. search rules)
    (λ c κs. search rules)
    (λ c. search rules)
    returns)
