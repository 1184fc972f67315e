-- The number that is answered is that of what compose answered, whose length is small.
use Rattle.bivamolune_packing.proofs.ComposeAnswerLaws.{short, composes}
use Rattle.bivamolune.proofs.composition.bivamolune_compose.Goals as goal

pub pack_length-requires : goal.pack_length-requires
pack_length-requires c =
    let a = c.args in
    short a.image.now a.line.now a.commands.now a.priority_flag a.priority a.message.now c.compose-composed.result _ c.compose-composed.ensures

pub returns : goal.returns
returns c =
    let a = c.args in
    composes a.image.now a.line.now a.commands.now a.priority_flag a.priority a.message.now c.compose-composed.result _ c.compose-composed.ensures c.pack_length.result c.pack_length.ensures
