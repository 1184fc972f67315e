-- A step without its pairs.
use Rattle.std.specs.Prelude.{List, ℕ, ◌+◌, ◌*◌, ◌-◌, replicate}
use Rattle.std.proofs.Math.Seq.{paste}
use Rattle.model.specs.Layout.{pairs_at, pair_size, pairs_size}

-- A buffer with a step's head written at a place, and zeros in the pairs behind so many.
abbrev pub framed : List ℕ → ℕ → List ℕ → ℕ → List ℕ
framed buffer at head count =
    paste (paste buffer at head pairs_at) (at + pairs_at + pair_size * count) (replicate pairs_size 0) (pairs_size - pair_size * count)
