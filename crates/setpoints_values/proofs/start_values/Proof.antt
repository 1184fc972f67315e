-- Without a floor the base values are zero; they stand before the floors, inside the pool.
use mathlib.Core.Path.{◌∙◌, sym}
use native.Mathlib.Omega.{arith}
use Rattle.model.specs.Setpoints.{start_values}
use Rattle.model.specs.Image.{origin_in}
use Rattle.laws_origin.specs.OriginLaws.{floors_in_lem, base_is, start_least, room_of}
use Rattle.set_floors.specs.FloorLaws.{count_room}
use Rattle.setpoints_values.specs.StartLaws.{base_zeros}
use Rattle.setpoints_values.proofs.start_values.Statement.{statement}
use Rattle.setpoints_values.proofs.start_values.Tie as tie

abbrev start : tie.After-count_floors → tie.Start
start k = k.before.before

count-floors-requires : tie.Need-count_floors-requires
count-floors-requires c κs = let s = c.before in count_room s.args.pool.now s.requires

returns : tie.Need-returns-then-count_floors-eq0
unfolding start_values
returns c =
    let k = c.before in
    let pool = (start k).args.pool.now in
    λ l. sym (base_zeros (origin_in pool) (start k).requires (floors_in_lem pool ∙ sym k.count_floors.ensures.0 ∙ c.if-count_floors-eq0.true))

values-at-requires : tie.Need-values_at-requires
values-at-requires c κs = let s = start c.before in omega (arith, start_least s.args.pool.now, room_of s.args.pool.now s.requires)

returns-2 : tie.Need-returns
unfolding start_values origin_in
returns-2 c =
    let s = start c.before.before in
    λ l. c.values_at.ensures ∙ sym (base_is s.args.pool.now (room_of s.args.pool.now s.requires))

pub start_values_spec : {M : Type 1} → statement M
start_values_spec = tie.close (tie.spec count-floors-requires returns values-at-requires returns-2)
