-- Each part is written behind the one before it.
use mathlib.Core.Path.{◌∙◌, ap}
use mathlib.Core.List.{List, [], ◌∷◌}
use Prim.Native.Nat.{ℕ}
use native.Mathlib.Omega.{arith}
use Rattle.model.specs.Layout.{setpoints_offset_at, floor_count_at, purged_block_at}
use Rattle.image_header.specs.Pieces.{pasted, counts_bytes, offsets_bytes, floor_fields_bytes, purged_bytes}
use Rattle.image_header.specs.PieceLaws.{order_pasted}
use borrow.Author.Rules.{rules}
use Rattle.image_header.proofs.put_image_header.Statement.{statement}
use Rattle.image_header.proofs.put_image_header.Tie as tie

returns : tie.Need-returns
returns c =
    let a = c.args in
    let room = c.requires in
    c.put_purged.ensures
    ∙ ap (λ (b : List ℕ). pasted b purged_block_at (purged_bytes a.block a.group))
    (c.put_floor_fields.ensures
    ∙ ap (λ (b : List ℕ). pasted b floor_count_at (floor_fields_bytes a.floors))
    (c.put_offsets.ensures ∙ ap (λ (b : List ℕ). pasted b setpoints_offset_at (offsets_bytes a.start a.used)) c.put_counts.ensures))
    ∙ order_pasted a.out.now 0
    (counts_bytes a.log a.held ∷ offsets_bytes a.start a.used ∷ floor_fields_bytes a.floors ∷ purged_bytes a.block a.group ∷ []) (omega arith)

pub put_image_header_spec : {M : Type 1} → statement M
put_image_header_spec =
    tie.close (tie.spec (λ c κs. search rules) (λ c κs. search rules) (λ c κs. search rules) (λ c κs. search rules) (λ c. search rules) returns)
