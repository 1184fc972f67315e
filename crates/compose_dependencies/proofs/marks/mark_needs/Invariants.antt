-- With the rows of the places that are left marked, all of them are.
use Rattle.std.proofs.Common.{◌≡◌, map, drop}
use Rattle.model.specs.Bytes.{join}
use Rattle.set_needs.specs.Rows.{row_in}
use Rattle.compose_dependencies.specs.Marks.{marked}
use Rattle.compose_dependencies.proofs.marks.mark_needs.Given as goal

abbrev pub invariant-loop-place : goal.invariant-loop-place
invariant-loop-place l =
    let row = row_in l.rows l.counts in
    marked l.marks (join (map row (drop l.place-index l.places))) ≡ marked l.fn.marks (join (map row l.places))
