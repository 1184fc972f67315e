-- One command more is run, and past the last one all are.
use Rattle.std.proofs.Common.{rules, arith, length, ◌≤◌, ◌/◌}
use Rattle.std.proofs.lemmas.List.{map-set, length-map}
use Rattle.model.specs.Layout.{command_size}
use Rattle.setpoints_changes.specs.Changes.{change_in}
use Rattle.setpoints.specs.RunningLaws.{running_none, running_more, ran_values, ran_changes}
use Rattle.setpoints.proofs.run_commands.Goals as goal

pub loop-k-init : goal.loop-k-init
loop-k-init c = running_none _ _ _ (search rules)

pub loop-k-preserved : goal.loop-k-preserved
loop-k-preserved c =
    let l = c.loop-k in
    let kept = map-set change_in l.changes l.k c.change_of-change.result in
    let room = length-map l.changes change_in in
    running_more c.args.c.now c.args.values l.k {d = change_in c.change_of-change.result} l.invariant (omega arith) (omega (arith, room)) (cc c.change_of-change.ensures) (cc kept) (cc c.apply.ensures) (search rules)

pub returns : goal.returns
returns c =
    let l = c.loop-k in
    let all : length c.args.c.now / command_size ≤ l.k = omega arith in
    (ran_values c.args.c.now c.args.values l.k l.invariant all, ran_changes c.args.c.now c.args.values l.k l.invariant all)
