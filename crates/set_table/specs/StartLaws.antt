-- The messages of the image of a table's set start where those of the image that its pool begins with do.
use Rattle.std.specs.Prelude.{◌≡◌, List, ℕ, ◌+◌, ◌*◌}
use Rattle.std.proofs.Common.{sym, ap}
use Rattle.model.specs.Layout.{sequence_size, floors_start}
use Rattle.model.specs.Image.{messages_start, messages_start_in, origin_in}
use Rattle.laws_origin.specs.OriginLaws.{floors_length}
use Rattle.set_table.specs.Table.{set_in}

pub start_in : (pool starts : List ℕ) → messages_start_in pool ≡ messages_start (set_in pool starts)
unfolding messages_start messages_start_in origin_in
start_in pool starts = ap (λ (n : ℕ). floors_start + sequence_size * n) (sym (floors_length pool))
