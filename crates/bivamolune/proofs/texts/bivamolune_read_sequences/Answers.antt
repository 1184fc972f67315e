-- The number that is answered is that of what the reader answered, whose length is small.
use Rattle.std.proofs.Common.{arith}
use Rattle.model.specs.Calls.{read_sequences}
use Rattle.laws_text.specs.RoundTrips.{read_short}
use Rattle.bivamolune_packing.proofs.TextAnswerLaws.{short, short_length, converts}
use Rattle.bivamolune.proofs.texts.bivamolune_read_sequences.Goals as goal

pub pack_length-requires : goal.pack_length-requires
pack_length-requires c = short_length _ (short (read_sequences c.args.text.now c.args.sequences.now) c.read_sequences.result _ c.read_sequences.ensures (omega (arith, read_short c.args.text.now c.args.sequences.now)))

pub returns : goal.returns
returns c = converts (read_sequences c.args.text.now c.args.sequences.now) c.read_sequences.result _ c.read_sequences.ensures c.pack_length.result c.pack_length.ensures
