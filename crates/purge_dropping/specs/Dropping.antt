-- What is known where the first deltas of a log are dropped.
use Rattle.std.specs.Prelude.{◌≡◌, List, ℕ, ◌≤◌, length, take, T}
use Rattle.model.specs.Image.{state_in, is_image}
use Rattle.set_table.specs.Table.{set_in}
use Rattle.image_sections.specs.LogPlaces.{LogPlaces}

-- An image, its copy with the table of its messages, and the places of the first deltas of its log.
pub record Droppable (b pool starts gone : List ℕ) : Type 0 where
  pub image : T (is_image b)
  pub pooled : pool ≡ b
  pub set : set_in b starts ≡ state_in b
  pub all : List ℕ
  pub log : LogPlaces pool starts all
  pub inside : length gone ≤ length all
  pub first : gone ≡ take (length gone) all
