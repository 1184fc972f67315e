-- Each number is written behind the one before it.
use mathlib.Core.Path.{◌∙◌, ap}
use mathlib.Core.List.{List}
use Prim.Native.Nat.{ℕ}
use native.Mathlib.Omega.{arith}
use lib.Seq.{paste}
use Rattle.model.specs.Bytes.{bytes}
use Rattle.model.specs.Layout.{setpoints_offset_at, messages_offset_at, used_at, setpoints_start}
use Rattle.image_header.specs.PieceLaws.{three_pasted}
use borrow.Author.Rules.{rules}
use Rattle.image_header.proofs.put_offsets.Statement.{statement}
use Rattle.image_header.proofs.put_offsets.Tie as tie

returns : tie.Need-returns
returns c =
    let room = c.requires in
    c.put_u16-3.ensures
    ∙ ap (λ (b : List ℕ). paste b used_at (bytes 2 c.args.used) 2)
    (c.put_u16-2.ensures ∙ ap (λ (b : List ℕ). paste b messages_offset_at (bytes 2 c.args.start) 2) c.put_u16.ensures)
    ∙ three_pasted c.args.out.now setpoints_offset_at setpoints_start c.args.start c.args.used (omega arith)

pub put_offsets_spec : {M : Type 1} → statement M
put_offsets_spec =
    tie.close
    (tie.spec (λ c. search rules) (λ c κs. search rules) (λ c κs. search rules) (λ c κs. search rules) (λ c. search rules) returns)
