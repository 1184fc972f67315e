-- The place among the dependencies, by whether there is a predecessor before them.
use Rattle.std.proofs.Common.{◌∙◌, sym, ap, arith}
use Rattle.model.specs.Message.{predecessor_of}
use Rattle.message_sequence.specs.Sequence.{predecessor_list}
use Rattle.set_needs.specs.WantedLaws.{length_needs, dependencies_lie}
use Rattle.set_needs.proofs.wanted.need_of.Goals as goal

pub dependency-requires : goal.dependency-requires
dependency-requires c =
    let m = c.args.m.now in
    let is = c.predecessor_of-before.ensures ∙ ap predecessor_of c.read_sequence.ensures in
    (omega (arith, length_needs m (ap predecessor_list (sym c.in_default.is) ∙ is), c.requires.1), dependencies_lie m c.requires.0)

pub dependency-requires-2 : goal.dependency-requires-2
dependency-requires-2 c =
    let m = c.args.m.now in
    let is = c.predecessor_of-before.ensures ∙ ap predecessor_of c.read_sequence.ensures in
    (omega (arith, length_needs m (ap predecessor_list (sym c.in-Some.is) ∙ is), c.requires.1), dependencies_lie m c.requires.0)
