-- Each number is written behind the one before it.
use mathlib.Core.Path.{◌∙◌, ap}
use mathlib.Core.List.{List}
use Prim.Native.Nat.{ℕ}
use lib.Seq.{paste}
use Rattle.model.specs.Bytes.{bytes}
use Rattle.model.specs.Layout.{block_at, priority_at, last_zeros_at}
use Rattle.compose_header.specs.NumberLaws.{fields_pasted}
use borrow.Author.Rules.{rules}
use Rattle.compose_header.proofs.put_fields.Statement.{statement}
use Rattle.compose_header.proofs.put_fields.Tie as tie

returns : tie.Need-returns
returns c =
    let a = c.args in
    c.put_u32-4.ensures
    ∙ ap (λ (b : List ℕ). paste b last_zeros_at (bytes 4 0) 4)
    (c.put_u32-3.ensures
    ∙ ap (λ (b : List ℕ). paste b priority_at (bytes 4 a.priority) 4)
    (c.put_u32-2.ensures ∙ ap (λ (b : List ℕ). paste b block_at (bytes 4 a.block) 4) c.put_u32.ensures))
    ∙ fields_pasted a.message.now c.requires a.group a.block a.priority

pub put_fields_spec : {M : Type 1} → statement M
put_fields_spec =
    tie.close
    (tie.spec
    (λ c κs. search rules)
    (λ c κs. search rules)
    (λ c κs. search rules)
    (λ c κs. search rules)
    (λ c. search rules)
    returns)
