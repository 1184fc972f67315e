-- The places of a log's messages among a table's starts, and the places of the others.
use Rattle.std.specs.Prelude.{◌≡◌, not, List, [], ◌∷◌, ◌++◌, ℕ, zero, suc, ◌≤◌, ◌<◌, length, take}
use Rattle.model.specs.Lists.{◌∈◌, has, keep}
use Rattle.model.specs.Layout.{image_size}
use Rattle.model.specs.Order.{log_of}
use Rattle.set_table.specs.Table.{deltas_of, deltas_at, set_in, Holds}
use Rattle.image_sections.specs.declared.held.Held.{Held}

-- The numbers below n, ascending.
abbrev pub below : ℕ → List ℕ
below zero = []
below (suc n) = below n ++ (n ∷ [])

-- The places below a count that are not among the given ones, ascending.
abbrev pub others_below : ℕ → List ℕ → List ℕ
others_below count places = keep (λ i. not (has i places)) (below count)

-- Places of a table.
pub record TablePlaces (pool starts places : List ℕ) : Type 0 where
  pub holds : Holds pool starts
  pub inside : (i : ℕ) → i ∈ places → i < length starts

-- The places of the log, in its order.
pub record LogPlaces (pool starts places : List ℕ) : Type 0 where
  pub holds : Holds pool starts
  pub log : deltas_at (deltas_of pool starts) places ≡ log_of (set_in pool starts)

-- The places of the log, and all others: those of the held ones.
pub record AllPlaces (pool starts places others : List ℕ) : Type 0 where
  pub logged : LogPlaces pool starts places
  pub held : others ≡ others_below (length starts) places

-- A buffer with room for an image, and the places of the log.
pub record ImageInput (out pool starts places : List ℕ) : Type 0 where
  pub room : image_size ≤ length out
  pub logged : LogPlaces pool starts places

-- The places that a `Held` has.
abbrev pub held_places : Held → List ℕ
held_places h = take h.count h.places

-- The places below a count that are not among the given ones, as an array and how many they are.
pub record HeldBelow (count : ℕ) (places : List ℕ) (h : Held) : Type 0 where
  pub others : held_places h ≡ others_below count places
  pub size : h.count ≡ length (others_below count places)
