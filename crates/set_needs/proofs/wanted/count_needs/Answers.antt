-- One more than its dependencies, where there is a predecessor.
use Rattle.std.proofs.Common.{◌∙◌, sym, ap, arith}
use Rattle.model.specs.Message.{predecessor_of}
use Rattle.message_sequence.specs.Sequence.{predecessor_list}
use Rattle.set_needs.specs.WantedLaws.{length_needs}
use Rattle.set_needs.proofs.wanted.count_needs.Goals as goal

pub returns-in_default : goal.returns-in_default
returns-in_default c =
    let is = c.predecessor_of-before.ensures ∙ ap predecessor_of c.read_sequence.ensures in
    omega (arith, length_needs c.args.m.now (ap predecessor_list (sym c.in_default.is) ∙ is), c.byte-dependencies.ensures)

pub returns : goal.returns
returns c =
    let is = c.predecessor_of-before.ensures ∙ ap predecessor_of c.read_sequence.ensures in
    omega (arith, length_needs c.args.m.now (ap predecessor_list (sym c.in-Some.is) ∙ is), c.byte-dependencies.ensures)
