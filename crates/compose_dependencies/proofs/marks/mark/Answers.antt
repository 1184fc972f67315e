-- An index marks its place.
use Rattle.std.proofs.Common.{sym, ◌∙◌}
use Rattle.compose_dependencies.specs.MarkLaws.{marked_next, marked_none}
use Rattle.compose_dependencies.proofs.marks.mark.Goals as goal

pub loop-i-preserved : goal.loop-i-preserved
loop-i-preserved c = sym (marked_next c.loop-i.marks c.args.indices.now c.loop-i.i-index c.loop-i-test.true) ∙ c.loop-i.invariant

pub returns : goal.returns
returns c = sym (marked_none c.loop-i.marks c.args.indices.now c.loop-i.i-index c.loop-i-test.false) ∙ c.loop-i.invariant
