-- The undos stand first, the executions behind them, both run from what is kept: together they are the steps from the old log to the
-- new one.
use mathlib.Core.Path.{◌≡◌, sym, subst}
use Prim.Native.Nat.{◌*◌, ◌-◌}
use lib.ListN.{length}
use lib.Seq.{length-take-le}
use Rattle.model.specs.Layout.{step_size}
use Rattle.model.specs.Setpoints.{start_values}
use Rattle.set_table.specs.Table.{set_in}
use Rattle.deliver_steps.specs.Room.{RestFits}
use Rattle.deliver_steps.specs.RoomLaws.{kept_old, kept_inside, undos_fit, executions_fit}
use Rattle.deliver_steps.specs.StepsWritten.{steps_written}
use borrow.Author.Rules.{rules}
use Rattle.deliver_steps.proofs.write_steps.Statement.{statement}
use Rattle.deliver_steps.proofs.write_steps.Tie as tie

-- the call as it began, from where the kept log is run; and from where the undos are written
abbrev began : tie.After-shared_slice_known-4-1 → tie.Start
began c = c.before.before.before.before.before

abbrev run : tie.After-put_records → tie.After-run_log-values
run u = u.before.before

abbrev start : tie.After-put_records → tie.Start
start u = began (run u).before

slice-aggregate-run-log : tie.Need-slice_bounds-run_log-end
slice-aggregate-run-log c = let s = began c in sym (length-take-le s.args.kept s.args.old.now (kept_old s.requires))

run-log-requires : tie.Need-run_log-values-requires
run-log-requires c κs = kept_inside (began c).requires

put-records-requires : tie.Need-put_records-requires
put-records-requires c κs = undos_fit (began c.before.before).requires

sub-undone : tie.Need-overflow_sub-undone
sub-undone c = kept_old (start c.before.before).requires

put-records-requires-2 : tie.Need-put_records-requires-2
put-records-requires-2 c κs =
    let s = start c.before.before.before in
    let same : length c.put_records.new.steps ≡ length s.args.steps.now = search rules in
    subst (RestFits s.args.pool.now s.args.starts.now s.args.new.now s.args.kept (step_size * (length s.args.old.now - s.args.kept))) (sym same) (executions_fit s.requires)

returns : tie.Need-returns
returns c =
    let s = start c.before.before.before.before.before.before in
    let a = s.args in
    steps_written a.pool.now a.starts.now a.old.now a.new.now a.kept a.steps.now s.requires (start_values (set_in a.pool.now a.starts.now)) (run c.before.before.before.before.before.before).run_log-values.result (run c.before.before.before.before.before.before).run_log-values.ensures
    c.put_records.ensures c.put_records-2.ensures

pub write_steps_spec : {M : Type 1} → statement M
write_steps_spec =
    tie.close
    (tie.spec
    slice-aggregate-run-log
    run-log-requires
    put-records-requires
    sub-undone
    (λ c. search rules)
    put-records-requires-2
    (λ c. search rules)
    returns)
