-- With the sequences that are left written at `to`, all of them are.
use Rattle.std.proofs.Common.{◌≡◌, ◌+◌, ◌*◌, drop}
use Rattle.model.specs.Layout.{sequence_size}
use Rattle.image_header.specs.Pieces.{pasted}
use Rattle.compose_writing.specs.Writing.{names_at, sequences_bytes}
use Rattle.compose_writing.proofs.sequences.put_sequences.Given as goal

abbrev pub invariant-loop-place : goal.invariant-loop-place
invariant-loop-place l =
    let names = names_at l.pool l.starts l.places in
    record {
      end : l.to ≡ l.at + sequence_size * l.place-index;
      bytes : pasted l.message l.to (sequences_bytes (drop l.place-index names)) ≡ pasted l.fn.message l.at (sequences_bytes names);
    }
