-- The image's floors lie in it, and are few.
use mathlib.Core.Path.{◌∙◌, ap}
use mathlib.Core.List.{List}
use Prim.Native.Nat.{ℕ, ◌-◌, ◌≤◌}
use native.Mathlib.Omega.{arith}
use lib.ListN.{length, drop, length-drop}
use lib.Seq.{length-take-le}
use borrow.Author.Rules.{rules}
use Rattle.model.specs.Layout.{floors_start, most_floors}
use Rattle.laws_origin.specs.OriginLaws.{header_room}
use Rattle.set_tops.specs.TopsIn.{tops_in}
use Rattle.purge_floors.specs.FloorsLaws.{floors_few, floors_room, tops_copied}
use Rattle.purge_floors.proofs.copy_floors.Statement.{statement}
use Rattle.purge_floors.proofs.copy_floors.Tie as tie

abbrev start : tie.After-count_floors-count → tie.Start
start c = c.before.before.before

header : (s : tie.Start) → floors_start ≤ length s.args.pool.now
header s = header_room s.args.pool.now s.requires.0

few : (c : tie.After-count_floors-count) → c.count_floors-count.result ≤ most_floors
few c = omega (arith, c.count_floors-count.ensures.0, floors_few (start c).args.pool.now (start c).requires.0)

copy-at-requires : tie.Need-copy_at-requires
copy-at-requires c κs =
    let pool : List ℕ = (start c.before.before).args.pool.now in
    let left : ℕ = length pool - floors_start in (
      omega (arith, c.count_floors-count.ensures.0, floors_room pool (start c.before.before).requires.0, length-take-le left (drop floors_start pool) (omega (arith, length-drop floors_start pool))),
      omega (arith, few c.before.before),
    )

returns : tie.Need-returns
returns c =
    let s = start c.before.before.before.before.before in (
      ap (λ (l : List ℕ). tops_in l c.count_floors-count.result) c.copy_at.ensures
          ∙ tops_copied s.args.pool.now s.requires.0 s.args.tops.now c.count_floors-count.result c.count_floors-count.ensures.0,
      few c.before.before.before.before.before,
    )

pub copy_floors_spec : {M : Type 1} → statement M
copy_floors_spec =
    tie.close
    (tie.spec
    (λ c κs. omega (arith, header c.before.before))
    (λ c. omega (arith, header (start c.before)))
    (λ c. omega (arith, header (start c.before)))
    (λ c. search rules)
    (λ c. search rules)
    copy-at-requires
    (λ c. search rules)
    returns)
