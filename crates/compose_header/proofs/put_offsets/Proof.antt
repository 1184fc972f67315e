-- Each number is written behind the one before it.
use mathlib.Core.Path.{◌∙◌, ap}
use mathlib.Core.List.{List}
use Prim.Native.Nat.{ℕ}
use lib.Seq.{paste}
use Rattle.model.specs.Bytes.{bytes}
use Rattle.model.specs.Layout.{header_size, dependencies_offset_at, commands_offset_at, first_zeros_at}
use Rattle.model.specs.Message.{commands_start}
use Rattle.compose_header.specs.NumberLaws.{offsets_pasted}
use borrow.Author.Rules.{rules}
use Rattle.compose_header.proofs.put_offsets.Statement.{statement}
use Rattle.compose_header.proofs.put_offsets.Tie as tie

returns : tie.Need-returns
returns c =
    let a = c.args in
    c.put_u16-4.ensures
    ∙ ap (λ (b : List ℕ). paste b first_zeros_at (bytes 2 0) 2)
    (c.put_u16-3.ensures
    ∙ ap (λ (b : List ℕ). paste b commands_offset_at (bytes 2 (commands_start a.dependencies)) 2)
    (c.put_u16-2.ensures ∙ ap (λ (b : List ℕ). paste b dependencies_offset_at (bytes 2 header_size) 2) c.put_u16.ensures))
    ∙ offsets_pasted a.message.now c.requires.0 a.dependencies a.commands

pub put_offsets_spec : {M : Type 1} → statement M
put_offsets_spec =
    tie.close
    (tie.spec
    (λ c. search rules)
    (λ c. search rules)
    (λ c. search rules)
    (λ c. search rules)
    (λ c. search rules)
    (λ c κs. search rules)
    (λ c. search rules)
    (λ c κs. search rules)
    (λ c. search rules)
    (λ c κs. search rules)
    (λ c κs. search rules)
    (λ c. search rules)
    returns)
