-- The slice handed over is the message past its dependencies.
use Rattle.std.proofs.Common.{◌≡◌, ◌∙◌, ap, ℕ, ◌-◌, T, arith, length, take, drop, take_all, length-drop}
use Rattle.model.specs.Message.{Message, dependency_count, commands_start, passes}
use Rattle.laws_wire.specs.MessageLaws.{passes_sized}
use Rattle.setpoints.specs.DeltaLaws.{delta_count, delta_run, delta_changes}
use Rattle.setpoints.proofs.run_delta.Goals as goal

part : (m : Message) (n : ℕ) → T (passes m) → n ≡ dependency_count m
    → take (length m - commands_start n) (drop (commands_start n) m) ≡ drop (commands_start (dependency_count m)) m
part m n t e =
    let from : ℕ = commands_start (dependency_count m) in
    ap (λ (k : ℕ). take (length m - commands_start k) (drop (commands_start k) m)) e
    ∙ take_all (length m - from) (drop from m) (omega (arith, length-drop from m))

pub byte-dependencies-requires : goal.byte-dependencies-requires
byte-dependencies-requires c = omega (arith, (passes_sized c.args.m.now c.requires.0).total)

pub slice_bounds-run_commands-count : goal.slice_bounds-run_commands-count
slice_bounds-run_commands-count c = omega (arith, (passes_sized c.args.m.now c.requires.0).total, c.byte-dependencies.ensures.0)

pub slice_bounds-run_commands-start : goal.slice_bounds-run_commands-start
slice_bounds-run_commands-start c = omega (arith, (passes_sized c.args.m.now c.requires.0).total, c.byte-dependencies.ensures.0)

pub run_commands-requires : goal.run_commands-requires
run_commands-requires c =
    let m = c.args.m.now in
    let sized = passes_sized m c.requires.0 in
    let count = delta_count m c.requires.0 (part m c.byte-dependencies.result c.requires.0 c.byte-dependencies.ensures.0) in
    omega (arith, count, sized.commands)

pub returns : goal.returns
returns c =
    let m = c.args.m.now in
    let here = part m c.byte-dependencies.result c.requires.0 c.byte-dependencies.ensures.0 in (
      delta_run m c.requires.0 here c.args.values (cc c.run_commands.ensures.0),
      delta_changes m c.requires.0 here c.args.values _ (cc c.run_commands.ensures.1),
    )
