-- The tops so far, raised by the sequences that are left, are the image's floors raised by all; there are few of them.
use Rattle.std.proofs.Common.{◌≡◌, ◌+◌, ◌≤◌}
use Rattle.model.specs.Layout.{most_floors}
use Rattle.model.specs.Tops.{raise_tops}
use Rattle.model.specs.Image.{origin_in}
use Rattle.set_tops.specs.TopsIn.{tops_in}
use Rattle.purge_floors.specs.FloorsLaws.{gone_from}
use Rattle.purge_floors.proofs.raise_floors.Given as goal

abbrev pub invariant-loop-place : goal.invariant-loop-place
invariant-loop-place l = record {
  tops : raise_tops (gone_from l.pool l.starts l.places l.place-index) (tops_in l.tops l.count)
      ≡ raise_tops (gone_from l.pool l.starts l.places 0) (origin_in l.pool).floors;
  few : l.count ≤ most_floors + l.place-index;
}
