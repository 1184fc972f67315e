-- Pairs in a buffer.
use Rattle.std.specs.Prelude.{List, ℕ, ◌*◌, length}
use Rattle.std.proofs.Math.Seq.{paste}
use Rattle.model.specs.Layout.{pair_size}
use Rattle.model.specs.Steps.{Pair, pairs_bytes}

-- A buffer with pairs written from a place on.
abbrev pub with_pairs : List ℕ → ℕ → List Pair → List ℕ
with_pairs buffer at l = paste buffer at (pairs_bytes l) (pair_size * length l)
