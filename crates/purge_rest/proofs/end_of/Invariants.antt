-- The messages that are left end, from here on, where all of them do from the start on.
use Rattle.std.proofs.Common.{◌≡◌, ◌+◌, length, drop}
use Rattle.model.specs.Bytes.{join}
use Rattle.set_table.specs.Table.{deltas_of, deltas_at}
use Rattle.purge_rest.proofs.end_of.Given as goal

abbrev pub invariant-loop-place : goal.invariant-loop-place
invariant-loop-place l =
    let all = deltas_of l.pool l.starts in
    l.at + length (join (deltas_at all (drop l.place-index l.places))) ≡ l.start + length (join (deltas_at all l.places))
