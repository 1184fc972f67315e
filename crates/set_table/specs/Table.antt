-- What a table stands for: the messages that start at its places in the pool. The pool is any run of bytes.
use Rattle.std.specs.Prelude.{◌≡◌, List, [], ◌∷◌, ◌++◌, map, ℕ, ◌+◌, take, drop, get_or}
use Rattle.model.specs.Bytes.{field}
use Rattle.model.specs.Layout.{length_at}
use Rattle.model.specs.Message.{Message}
use Rattle.model.specs.Order.{State, holding}
use Rattle.model.specs.Image.{Valid, origin_in}
use Rattle.set_table.specs.declared.Table.{Table}

abbrev pub starts_of : Table → List ℕ
starts_of t = take t.count t.starts

-- The message that starts at a place, cut by its length field.
abbrev pub message_from : List ℕ → ℕ → Message
message_from pool at = take (field pool (at + length_at) 2) (drop at pool)

abbrev pub deltas_of : List ℕ → List ℕ → List Message
deltas_of pool starts = map (message_from pool) starts

-- The deltas at some places among them.
abbrev pub deltas_at : List Message → List ℕ → List Message
deltas_at l places = map (λ i. get_or l i []) places

abbrev pub set_in : List ℕ → List ℕ → State
set_in pool starts = holding (origin_in pool) (deltas_of pool starts)

-- At most 64 messages that pass 3 to 6, by ascending sequence.
abbrev pub Holds : List ℕ → List ℕ → Type 0
Holds pool starts = Valid (set_in pool starts)

-- An item put in at a place.
abbrev pub insert_at : {A : Type 0} → ℕ → A → List A → List A
insert_at p a l = take p l ++ a ∷ drop p l

pub record Inserts (t : Table) (p at : ℕ) (r : Table) : Type 0 where
  pub starts : starts_of r ≡ insert_at p at (starts_of t)
  pub count : r.count ≡ t.count + 1
