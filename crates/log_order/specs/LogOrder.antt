-- What a log order stands for: the old log and the new one so far, as places in the table, and how much of the old one is kept.
use Rattle.std.specs.Prelude.{◌≡◌, List, [], ◌∷◌, ◌++◌, ℕ, ◌+◌, ◌≤◌, take}
use Rattle.model.specs.Layout.{capacity}
use Rattle.model.specs.Steps.{common}
use Rattle.log_order.specs.declared.LogOrder.{LogOrder}

abbrev pub old_of : LogOrder → List ℕ
old_of o = take o.old_count o.old

abbrev pub places_of : LogOrder → List ℕ
places_of o = take o.count o.places

-- The counts are within the arrays, and the kept ones are the longest common start.
pub record OrderRight (o : LogOrder) : Type 0 where
  pub olds : o.old_count ≤ capacity
  pub news : o.count ≤ capacity
  pub kept : o.kept ≡ common (old_of o) (places_of o)

-- What `begin` hands back.
pub record Begun (old : List ℕ) (count : ℕ) (r : LogOrder) : Type 0 where
  pub olds : old_of r ≡ take count old
  pub size : r.old_count ≡ count
  pub none : places_of r ≡ []
  pub right : OrderRight r

-- What `place` hands back: one more at the end, beside the same old log.
pub record Placed (o : LogOrder) (i : ℕ) (r : LogOrder) : Type 0 where
  pub places : places_of r ≡ places_of o ++ i ∷ []
  pub count : r.count ≡ o.count + 1
  pub olds : old_of r ≡ old_of o
  pub size : r.old_count ≡ o.old_count
  pub right : OrderRight r
