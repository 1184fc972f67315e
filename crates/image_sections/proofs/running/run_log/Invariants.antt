-- All deltas run on the start values leave what those from k on leave of the current ones.
use Rattle.std.proofs.Common.{◌≡◌, drop}
use Rattle.model.specs.Setpoints.{run_log}
use Rattle.set_table.specs.Table.{deltas_of, deltas_at}
use Rattle.image_sections.proofs.running.run_log.Given as goal

abbrev pub invariant-loop-k : goal.invariant-loop-k
invariant-loop-k l =
    run_log (deltas_at (deltas_of l.pool l.starts) l.places) l.initial.values ≡ run_log (drop l.k (deltas_at (deltas_of l.pool l.starts) l.places)) l.values
