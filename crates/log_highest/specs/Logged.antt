-- Places of a log: of all its deltas, which compose asks for, or of some, as a purge will of those that it drops.
use Rattle.std.specs.Prelude.{List, ℕ}
use Rattle.model.specs.Lists.{◌∈◌}
use Rattle.image_sections.specs.LogPlaces.{LogPlaces}

pub record LoggedPlaces (pool starts places : List ℕ) : Type 0 where
  pub all : List ℕ
  pub log : LogPlaces pool starts all
  pub among : (i : ℕ) → i ∈ places → i ∈ all

pub all_logged : (pool starts places : List ℕ) → LogPlaces pool starts places → LoggedPlaces pool starts places
all_logged pool starts places l = record { all = places; log = l; among = λ i k. k }
