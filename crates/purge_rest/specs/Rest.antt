-- What a purge leaves of a state, of which the first deltas of the log go.
use Rattle.std.specs.Prelude.{◌≡◌, List, ℕ, ◌+◌, length, take}
use Rattle.model.specs.Bytes.{join}
use Rattle.model.specs.Message.{Message}
use Rattle.model.specs.Order.{State}
use Rattle.model.specs.Purge.{origin_past}
use Rattle.model.specs.Image.{messages_start}
use Rattle.image_sections.specs.LogPlaces.{LogPlaces}
use Rattle.purge_rest.specs.declared.Rest.{Rest}

-- The places of the first deltas of the log, in its order.
pub record FirstPlaces (pool starts gone : List ℕ) : Type 0 where
  pub all : List ℕ
  pub log : LogPlaces pool starts all
  pub count : ℕ
  pub first : gone ≡ take count all

pub record IsRest (S : State) (gone : List Message) (r : Rest) : Type 0 where
  pub base : r.base ≡ (origin_past S gone).base
  pub block : r.block ≡ (origin_past S gone).block
  pub group : r.group ≡ (origin_past S gone).group
  pub from : r.from ≡ messages_start S + length (join gone)
