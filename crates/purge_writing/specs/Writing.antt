-- What is known where the image after a purge is written.
use Rattle.std.specs.Prelude.{◌≡◌, List, ℕ, ◌*◌, ◌≤◌, length, take, T}
use Rattle.model.specs.Layout.{sequence_size, most_floors}
use Rattle.model.specs.Message.{Message}
use Rattle.model.specs.Order.{log_of}
use Rattle.model.specs.Purge.{origin_past}
use Rattle.model.specs.Image.{state_in, is_image}
use Rattle.set_tops.specs.TopsIn.{tops_in}
use Rattle.purge_rest.specs.declared.Rest.{Rest}
use Rattle.purge_rest.specs.Rest.{IsRest}

-- The deltas that go.
abbrev pub gone_from : List ℕ → ℕ → List Message
gone_from b k = take k (log_of (state_in b))

-- An image, its copy, and what is left of it: as many deltas as go are in the log, and no more floors than fit result.
pub record Writable (b pool tops : List ℕ) (floors k : ℕ) (rest : Rest) : Type 0 where
  pub image : T (is_image b)
  pub pooled : pool ≡ b
  pub inside : k ≤ length (log_of (state_in b))
  pub left : IsRest (state_in b) (gone_from b k) rest
  pub few : floors ≤ most_floors
  pub room : sequence_size * floors ≤ length tops
  pub raised : tops_in tops floors ≡ (origin_past (state_in b) (gone_from b k)).floors
