-- A message that passes 3 to 6 at a judged station, and a pool that begins with its image: what is needed to take it in.
use Rattle.std.specs.Prelude.{◌≡◌, List, ℕ, ◌+◌, ◌≤◌, length, take, T}
use Rattle.model.specs.Layout.{image_size, message_room, step_room}
use Rattle.model.specs.Message.{Message, passes}
use Rattle.model.specs.Codes.{deliver_conditions}
use Rattle.laws_codes.specs.Ladder.{Passed}
use Rattle.image_listed.specs.declared.Station.{Station}
use Rattle.image_judged.specs.Judging.{IsStation}

pub record Takeable (b : List ℕ) (m : Message) (room : ℕ) (pool : List ℕ) (station : Station) : Type 0 where
  pub size : length b ≡ image_size
  pub steps_room : step_room ≤ room
  pub judged : IsStation b station
  pub right : T (passes m)
  pub passed : Passed 6 (deliver_conditions b m room)
  pub pool_size : length pool ≡ image_size + message_room
  pub pooled : take image_size pool ≡ b
