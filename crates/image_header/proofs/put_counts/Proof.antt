-- H is written behind L.
use mathlib.Core.Path.{◌∙◌, ap}
use mathlib.Core.List.{List}
use Prim.Native.Nat.{ℕ}
use lib.Seq.{paste}
use Rattle.model.specs.Bytes.{bytes}
use Rattle.model.specs.Layout.{held_count_at}
use Rattle.image_header.specs.PieceLaws.{counts_pasted}
use borrow.Author.Rules.{rules}
use Rattle.image_header.proofs.put_counts.Statement.{statement}
use Rattle.image_header.proofs.put_counts.Tie as tie

returns : tie.Need-returns
returns c =
    c.put_u16-2.ensures
    ∙ ap (λ (b : List ℕ). paste b held_count_at (bytes 2 c.args.held) 2) c.put_u16.ensures
    ∙ counts_pasted c.args.out.now c.args.log c.args.held c.requires

pub put_counts_spec : {M : Type 1} → statement M
put_counts_spec = tie.close (tie.spec (λ c κs. search rules) (λ c κs. search rules) (λ c. search rules) returns)
