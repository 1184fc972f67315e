-- Each number is written behind the one before it.
use mathlib.Core.Path.{◌∙◌, ap}
use mathlib.Core.List.{List}
use Prim.Native.Nat.{ℕ}
use native.Mathlib.Omega.{arith}
use lib.Seq.{paste}
use Rattle.model.specs.Bytes.{bytes}
use Rattle.model.specs.Layout.{floor_count_at, floors_offset_at, base_offset_at, base_start, floors_start}
use Rattle.image_header.specs.PieceLaws.{three_pasted}
use borrow.Author.Rules.{rules}
use Rattle.image_header.proofs.put_floor_fields.Statement.{statement}
use Rattle.image_header.proofs.put_floor_fields.Tie as tie

returns : tie.Need-returns
returns c =
    let room = c.requires in
    c.put_u16-3.ensures
    ∙ ap (λ (b : List ℕ). paste b base_offset_at (bytes 2 base_start) 2)
    (c.put_u16-2.ensures ∙ ap (λ (b : List ℕ). paste b floors_offset_at (bytes 2 floors_start) 2) c.put_u16.ensures)
    ∙ three_pasted c.args.out.now floor_count_at c.args.floors floors_start base_start (omega arith)

pub put_floor_fields_spec : {M : Type 1} → statement M
put_floor_fields_spec =
    tie.close
    (tie.spec (λ c κs. search rules) (λ c. search rules) (λ c κs. search rules) (λ c. search rules) (λ c κs. search rules) (λ c. search rules) returns)
