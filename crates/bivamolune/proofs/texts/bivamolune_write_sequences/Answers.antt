-- The number that is answered is that of what the writer answered, whose length is small.
use Rattle.std.proofs.Common.{arith}
use Rattle.model.specs.Calls.{write_sequences}
use Rattle.laws_text.specs.RoundTrips.{write_short}
use Rattle.bivamolune_packing.proofs.TextAnswerLaws.{short, short_length, converts}
use Rattle.bivamolune.proofs.texts.bivamolune_write_sequences.Goals as goal

pub pack_length-requires : goal.pack_length-requires
pack_length-requires c = short_length _ (short (write_sequences c.args.sequences.now c.args.text.now) c.write_sequences.result _ c.write_sequences.ensures (omega (arith, write_short c.args.sequences.now c.args.text.now)))

pub returns : goal.returns
returns c = converts (write_sequences c.args.sequences.now c.args.text.now) c.write_sequences.result _ c.write_sequences.ensures c.pack_length.result c.pack_length.ensures
