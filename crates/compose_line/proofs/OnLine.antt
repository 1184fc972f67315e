-- The deltas at places, by the places.
use Rattle.std.specs.Prelude.{◌≡◌, refl, Bool, ◌||◌, List, [], ◌∷◌, ℕ, get_or, eqb}
use Rattle.std.specs.List.{list_any}
use Rattle.std.proofs.Common.{ap}
use Rattle.model.specs.Message.{Message, sequence_of, line_of}
use Rattle.set_table.specs.Table.{deltas_at}
use Rattle.compose_line.specs.Line.{some_on}

pub some_places : (l : List Message) (line : ℕ) (places : List ℕ) → list_any (λ i. eqb (line_of (sequence_of (get_or l i []))) line) places ≡ some_on line (deltas_at l places)
some_places l line [] = refl
some_places l line (i ∷ places) = ap (λ (t : Bool). eqb (line_of (sequence_of (get_or l i []))) line || t) (some_places l line places)
