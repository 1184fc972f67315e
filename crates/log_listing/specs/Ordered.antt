-- The log of a set as places in its table, beside the old log; and what holds while it grows.
use Rattle.std.specs.Prelude.{◌≡◌, List, [], ℕ, ◌≤◌, ◌<◌, length}
use Rattle.model.specs.Lists.{◌∈◌}
use Rattle.model.specs.Message.{sequence_of}
use Rattle.model.specs.Order.{State, needs, key_of, less, log_of}
use Rattle.laws_order.specs.KeyOrder.{less_total}
use Rattle.laws_order.specs.Greedy.{Greedy}
use Rattle.set_table.specs.Table.{deltas_at}
use Rattle.set_readiness.specs.Ready.{Placing}
use Rattle.log_order.specs.declared.LogOrder.{LogOrder}
use Rattle.log_order.specs.LogOrder.{old_of, places_of, OrderRight}

-- What `order` hands back.
pub record Ordered (S : State) (begun r : LogOrder) : Type 0 where
  pub log : deltas_at S.deltas (places_of r) ≡ log_of S
  pub within : (i : ℕ) → i ∈ places_of r → i < length S.deltas
  pub right : OrderRight r
  pub olds : old_of r ≡ old_of begun
  pub size : r.old_count ≡ begun.old_count

-- The first k deltas are placed, each as the next one.
pub record Grows (S : State) (placed : List ℕ) (k : ℕ) (places : List ℕ) : Type 0 where
  pub count : length places ≡ k
  pub within : (i : ℕ) → i ∈ places → i < length S.deltas
  pub placing : Placing S placed (deltas_at S.deltas places)
  pub greedy : Greedy sequence_of (needs S) (key_of S) less less_total S.deltas [] (deltas_at S.deltas places)

-- What holds where the loop of `order` tests.
pub record Growing (S : State) (begun : LogOrder) (placed : List ℕ) (log : LogOrder) (k : ℕ) : Type 0 where
  pub inside : k ≤ length S.deltas
  pub count : log.count ≡ k
  pub right : OrderRight log
  pub olds : old_of log ≡ old_of begun
  pub size : log.old_count ≡ begun.old_count
  pub grows : Grows S placed k (places_of log)
