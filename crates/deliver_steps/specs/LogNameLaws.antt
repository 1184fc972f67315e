-- The names of places, counted.
use Rattle.std.specs.Prelude.{◌≡◌, List, ℕ, length}
use Rattle.std.proofs.lemmas.List.{length-map}
use Rattle.set_table.specs.Places.{sequence_in}
use Rattle.deliver_steps.specs.LogNames.{names_of}

pub length_names : (pool starts places : List ℕ) → length (names_of pool starts places) ≡ length places
length_names pool starts places = length-map places (sequence_in pool starts)
