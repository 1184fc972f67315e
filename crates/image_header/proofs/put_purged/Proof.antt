-- Each number is written behind the one before it.
use mathlib.Core.Path.{◌∙◌, ap}
use mathlib.Core.List.{List}
use Prim.Native.Nat.{ℕ}
use lib.Seq.{paste}
use Rattle.model.specs.Bytes.{bytes}
use Rattle.model.specs.Layout.{purged_group_at, zeros_at}
use Rattle.image_header.specs.PieceLaws.{purged_pasted}
use borrow.Author.Rules.{rules}
use Rattle.image_header.proofs.put_purged.Statement.{statement}
use Rattle.image_header.proofs.put_purged.Tie as tie

returns : tie.Need-returns
returns c =
    c.put_u64.ensures
    ∙ ap (λ (b : List ℕ). paste b zeros_at (bytes 8 0) 8)
    (c.put_u32-2.ensures ∙ ap (λ (b : List ℕ). paste b purged_group_at (bytes 4 c.args.group) 4) c.put_u32.ensures)
    ∙ purged_pasted c.args.out.now c.args.block c.args.group c.requires

pub put_purged_spec : {M : Type 1} → statement M
put_purged_spec = tie.close (tie.spec (λ c κs. search rules) (λ c κs. search rules) (λ c κs. search rules) (λ c. search rules) returns)
