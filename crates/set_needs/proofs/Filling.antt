-- The row of a delta as it grows, one need after the other.
use Rattle.std.proofs.Common.{◌≡◌, Bool, true, false, cond, List, [], map, ℕ, ◌+◌, ◌≤◌, ◌<◌, length, get_or, set, sym, subst, ◌∙◌, ap, ap₂, arith}
use Rattle.std.proofs.Math.Dec.{T}
use Rattle.model.specs.Image.{origin_in}
use Rattle.model.specs.Message.{Message, needs_of, passes}
use Rattle.model.specs.Order.{purged, sequences_of, needs}
use Rattle.message_sequence.specs.declared.Sequence.{Sequence}
use Rattle.message_sequence.specs.Sequence.{sequence_number}
use Rattle.set_table.specs.Table.{deltas_of, set_in, Holds}
use Rattle.set_table.specs.PlaceLaws.{entry_passes}
use Rattle.set_needs.specs.Names.{index_of}
use Rattle.set_needs.specs.Rows.{row_size, row_of, left_out, RowGrows, RowFilled}
use Rattle.set_needs.specs.RowLaws.{left_out_lem, row_begins, grown_length, row_grows, row_filled}
use Rattle.set_needs.specs.WantedLaws.{needs_few}

abbrev delta : List ℕ → List ℕ → ℕ → Message
delta pool starts i = get_or (deltas_of pool starts) i []

pub delta_passes : (pool starts : List ℕ) (i : ℕ) (m : Message) → Holds pool starts → i < length starts → m ≡ get_or (deltas_of pool starts) i [] → T (passes m)
delta_passes pool starts i m h k e = subst (λ (x : Message). T (passes x)) (sym e) (entry_passes pool starts h i k)

-- When k of the needs of message m were looked at, n stand in the row.
pub record Filling (pool starts : List ℕ) (i at : ℕ) (before : List ℕ) (m : Message) (k : ℕ) (now : List ℕ) (n : ℕ) : Type 0 where
  pub grows : RowGrows before at (set_in pool starts) m k now n
  pub room : at + row_size ≤ length before
  pub few : length (needs_of m) ≤ row_size
  pub holds : Holds pool starts

pub filling_none : (pool starts : List ℕ) (i at : ℕ) (before : List ℕ) (m : Message) → Holds pool starts → i < length starts → at + row_size ≤ length before
    → m ≡ get_or (deltas_of pool starts) i [] → Filling pool starts i at before m 0 before 0
filling_none pool starts i at before m h k r e = record {
  grows = row_begins (set_in pool starts) m before at;
  room = r;
  few = needs_few m (delta_passes pool starts i m h k e);
  holds = h;
}

module _ (pool starts : List ℕ) (i at : ℕ) (before : List ℕ) (m : Message) (k : ℕ) (now : List ℕ) (n : ℕ) (f : Filling pool starts i at before m k now n) where
  pub filling_length : k ≤ length (needs_of m) → length now ≡ length before
  filling_length h = grown_length f.grows (omega (arith, f.room, f.few))

  module _ (h : k < length (needs_of m)) (s : Sequence) (index : ℕ) (is : sequence_number s ≡ get_or (needs_of m) k 0)
      (names : List ℕ) (found : index ≡ index_of names (sequence_number s)) (all : names ≡ sequences_of (deltas_of pool starts))
      (out : Bool) (looked : out ≡ left_out (origin_in pool) (sequence_number s) index) where
    here : index ≡ index_of (sequences_of (deltas_of pool starts)) (get_or (needs_of m) k 0)
    here = found ∙ ap₂ index_of all is

    below : out ≡ purged (set_in pool starts) (get_or (needs_of m) k 0)
    below = looked ∙ ap₂ (left_out (origin_in pool)) is here ∙ left_out_lem (set_in pool starts) f.holds (get_or (needs_of m) k 0)

    next : (row : List ℕ) (count : ℕ) → (row ≡ cond out now (set now (at + n) index)) × (count ≡ cond out n (n + 1)) → Filling pool starts i at before m (k + 1) row count
    next row count w = record {
      grows = row_grows f.grows (omega (arith, f.room, f.few)) h index here out below w;
      room = f.room;
      few = f.few;
      holds = f.holds;
    }

    pub filling_out : out ≡ true → (row : List ℕ) (count : ℕ) → row ≡ now → count ≡ n → Filling pool starts i at before m (k + 1) row count
    filling_out t row count u v =
        next row count (u ∙ ap (λ (b : Bool). cond b now (set now (at + n) index)) (sym t), v ∙ ap (λ (b : Bool). cond b n (n + 1)) (sym t))

    pub filling_more : out ≡ false → (row : List ℕ) (count : ℕ) → row ≡ set now (at + n) index → count ≡ n + 1 → Filling pool starts i at before m (k + 1) row count
    filling_more t row count u v =
        next row count (u ∙ ap (λ (b : Bool). cond b now (set now (at + n) index)) (sym t), v ∙ ap (λ (b : Bool). cond b n (n + 1)) (sym t))

  pub filling_done : k ≡ length (needs_of m) → m ≡ get_or (deltas_of pool starts) i [] → RowFilled before at (row_of (set_in pool starts) i) now n
  filling_done h e =
      subst (λ (x : Message). RowFilled before at (map (index_of (sequences_of (deltas_of pool starts))) (needs (set_in pool starts) x)) now n) e
      (row_filled f.grows h (omega (arith, f.few)))

pub ruleset filling = (delta_passes, filling_length, filling_done)
