-- What is read of the pool are its origin's numbers.
use mathlib.Core.Path.{sym, ◌∙◌, ap, ap₂}
use Prim.Native.Nat.{ℕ, ◌≤◌}
use native.Mathlib.Omega.{arith}
use borrow.Author.Rules.{rules}
use lib.ListN.{length}
use Rattle.model.specs.Layout.{floors_start}
use Rattle.model.specs.Image.{origin_in}
use Rattle.laws_origin.specs.OriginLaws.{header_room, block_in, group_in, floors_in_lem}
use Rattle.image_header.specs.Pieces.{pasted, header_bytes}
use Rattle.image.proofs.put_header.Statement.{statement}
use Rattle.image.proofs.put_header.Tie as tie

-- the pool has a whole header
long : (s : tie.Start) → floors_start ≤ length s.args.pool.now
long s = header_room s.args.pool.now s.requires.0

returns : tie.Need-returns
returns c =
    let a = c.args in
    let pool = a.pool.now in
    c.put_image_header.ensures
    ∙ ap (pasted a.out.now 0)
    (ap₂ (λ (x y : ℕ). header_bytes a.log a.held a.start a.used x y c.get_u32-group.result) (c.count_floors-floors.ensures.0 ∙ sym (floors_in_lem pool)) (c.get_u32-block.ensures ∙ sym (block_in pool))
    ∙ ap (header_bytes a.log a.held a.start a.used (length (origin_in pool).floors) (origin_in pool).block) (c.get_u32-group.ensures ∙ sym (group_in pool)))

pub put_header_spec : {M : Type 1} → statement M
put_header_spec =
    tie.close
    (tie.spec
    (λ c κs. omega (arith, long c.before.before))
    (λ c. search rules)
    (λ c κs. omega (arith, long c.before.before.before))
    (λ c κs. omega (arith, long c.before.before.before.before))
    (λ c κs. search rules)
    (λ c. search rules)
    returns)
