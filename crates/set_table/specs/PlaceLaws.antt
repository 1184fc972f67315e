-- The messages of a table by their places: each stands inside the pool, and places ascend as sequences do.
use Rattle.std.specs.Prelude.{◌≡◌, List, [], ◌∷◌, ℕ, zero, suc, ◌+◌, ◌≤◌, ◌<◌, length, get_or, T}
use Rattle.std.proofs.Common.{◌∙◌, ap, arith}
use Rattle.model.specs.Lists.{◌∈◌}
use Rattle.model.specs.Bytes.{field}
use Rattle.model.specs.Layout.{header_size, sequence_at, sequence_size}
use Rattle.model.specs.Message.{Message, sequence_of, passes}
use Rattle.model.specs.Order.{Ascending}
use Rattle.laws_order.specs.ListLaws.{get_d_∈, get_d_map}
use Rattle.laws_wire.specs.MessageLaws.{passes_sized, sized_range}
use Rattle.set_table.specs.Table.{message_from, deltas_of, Holds}
use Rattle.set_table.specs.TableLaws.{Lies, passes_lies, deltas_length}
use Rattle.set_table.specs.Places.{sequence_in, AllBelow}

-- ---- a place of a list of places, by its index
pub below_at : (n : ℕ) (places : List ℕ) → AllBelow n places → (k : ℕ) → k < length places → get_or places k 0 < n
below_at n places h k q = h (get_or places k 0) (get_d_∈ places k 0 q)

-- ---- messages by their places
pub ascending_at : (l : List Message) → Ascending l → (i j : ℕ) → i < j → j < length l → sequence_of (get_or l i []) < sequence_of (get_or l j [])
ascending_at [] h i j p q = let z : ⊥ = omega arith in absurd z
ascending_at (m ∷ l) h i zero p q = let z : ⊥ = omega arith in absurd z
ascending_at (m ∷ l) h zero (suc j) p q = h.0 (get_or l j []) (get_d_∈ l j [] (omega arith))
ascending_at (m ∷ l) h (suc i) (suc j) p q = ascending_at l h.1 i j (omega arith) (omega arith)

-- a sequence stands at one place
pub one_place : (l : List Message) → Ascending l → (i j : ℕ) → i < length l → j < length l → sequence_of (get_or l i []) ≡ sequence_of (get_or l j []) → i ≡ j
one_place l a i j p q e =
    let before : ¬ (i < j) = λ k. let z : ⊥ = omega (arith, ascending_at l a i j k q) in z in
    let behind : ¬ (j < i) = λ k. let z : ⊥ = omega (arith, ascending_at l a j i k p) in z in
    omega arith

-- ---- of a table
pub delta_at : (pool starts : List ℕ) (k : ℕ) → k < length starts → get_or (deltas_of pool starts) k [] ≡ message_from pool (get_or starts k 0)
delta_at pool starts k h = get_d_map (message_from pool) starts k 0 [] h

-- its entries are there, pass 3 to 6, and have a header
pub entry_member : (pool starts : List ℕ) (i : ℕ) → i < length starts → get_or (deltas_of pool starts) i [] ∈ deltas_of pool starts
entry_member pool starts i h = get_d_∈ (deltas_of pool starts) i [] (omega (arith, deltas_length pool starts))

module _ (pool starts : List ℕ) (holds : Holds pool starts) (i : ℕ) (inside : i < length starts) where
  pub entry_passes : T (passes (get_or (deltas_of pool starts) i []))
  entry_passes = holds.pass (get_or (deltas_of pool starts) i []) (entry_member pool starts i inside)

  pub entry_long : header_size ≤ length (get_or (deltas_of pool starts) i [])
  entry_long = let m = get_or (deltas_of pool starts) i [] in omega (arith, sized_range m (passes_sized m entry_passes))

-- the message at a place lies inside the pool, and its sequence is read there
pub record Stands (pool starts : List ℕ) (k : ℕ) : Type 0 where
  pub lies : Lies pool (get_or starts k 0)
  pub sequence : sequence_in pool starts k ≡ field pool (get_or starts k 0 + sequence_at) sequence_size

pub stands : (pool starts : List ℕ) → Holds pool starts → (k : ℕ) → k < length starts → Stands pool starts k
stands pool starts h k q =
    let e : get_or (deltas_of pool starts) k [] ≡ message_from pool (get_or starts k 0) = delta_at pool starts k q in
    let t : T (passes (message_from pool (get_or starts k 0))) = rw e at (entry_passes pool starts h k q) in
    let l : Lies pool (get_or starts k 0) = passes_lies pool (get_or starts k 0) t in
    record { lies = l; sequence = ap sequence_of e ∙ l.fields sequence_at sequence_size (omega arith) }

-- sequences ascend by place
pub places_ascend : (pool starts : List ℕ) → Holds pool starts → (i j : ℕ) → i < j → j < length starts → sequence_in pool starts i < sequence_in pool starts j
places_ascend pool starts holds i j p q = ascending_at (deltas_of pool starts) holds.ascends i j p (omega (arith, deltas_length pool starts))
