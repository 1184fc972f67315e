-- The records between the logs of two valid states are read back: the values are in range, so that all fits its field.
use Rattle.std.specs.Prelude.{◌≡◌, List, ◌++◌, map, ℕ, length, T, ℤ}
use Rattle.std.proofs.Common.{subst, ⊎_elim, arith}
use Rattle.std.proofs.Math.Option.{some}
use mathlib.Core.List.Memᴰ
use Rattle.model.specs.Lists.{◌∈◌}
use Rattle.model.specs.Message.{Message, passes}
use Rattle.model.specs.Order.{State, log_of}
use Rattle.model.specs.Setpoints.{start_values, Change, changes_of}
use Rattle.model.specs.Image.{Valid}
use Rattle.model.specs.Steps.{Pair, pair_of, StepRecord, execution_of, undo_of, records_of, records_between, records_bytes, read_records}
use Rattle.laws_wire.specs.MessageLaws.{sequence_range}
use Rattle.laws_order.specs.ListLaws.{∈_reverse}
use Rattle.laws_wire.specs.RecordLaws.{execution_fits, undo_fits, along_each, records_from}
use Rattle.laws_wire.specs.RecordReading.{ReadablePair, Readable, read_records_lem}
use Rattle.laws_state.specs.ImageLaws.{log_passes}
use Rattle.laws_state.specs.ValueLaws.{AllInRange, in_range_mag, delta_changes_range, delta_range, start_range}

module _ (m : Message) (t : List ℤ) (pass : T (passes m)) (h : AllInRange t) where
  after_readable : (p : Pair) → p ∈ map (λ c. pair_of c.tag c.after) (changes_of m t) → ReadablePair p
  after_readable p k =
      let r = Memᴰ.of_map (λ (c : Change). pair_of c.tag c.after) (changes_of m t) k in
      let c = delta_changes_range m t pass h r.0 r.1 in
      subst ReadablePair r.2 (record { tag = omega (arith, c.tag); value = omega (arith, in_range_mag r.0.after c.after) })

  before_readable : (p : Pair) → p ∈ map (λ c. pair_of c.tag c.before) (changes_of m t) → ReadablePair p
  before_readable p k =
      let r = Memᴰ.of_map (λ (c : Change). pair_of c.tag c.before) (changes_of m t) k in
      let c = delta_changes_range m t pass h r.0 r.1 in
      subst ReadablePair r.2 (record { tag = omega (arith, c.tag); value = omega (arith, in_range_mag r.0.before c.before) })

  execution_readable : Readable (execution_of m t)
  unfolding execution_of
  execution_readable = record { fits = execution_fits m t pass; sequence = sequence_range m pass; pairs = after_readable }

  undo_readable : Readable (undo_of m t)
  unfolding undo_of
  undo_readable = record {
    fits = undo_fits m t pass;
    sequence = sequence_range m pass;
    pairs = λ p k. before_readable p (∈_reverse (map (λ c. pair_of c.tag c.before) (changes_of m t)) k);
  }

records_readable : (start : List ℤ) (old new : List Message) → AllInRange start
    → ((m : Message) → m ∈ old → T (passes m)) → ((m : Message) → m ∈ new → T (passes m)) → (r : StepRecord) → r ∈ records_of start old new → Readable r
records_readable start old new h p q r k = ⊎_elim
    (along_each Readable AllInRange undo_of (λ m t pass v. (undo_readable m t pass v, delta_range m t pass v)) old start p h r)
    (along_each Readable AllInRange execution_of (λ m t pass v. (execution_readable m t pass v, delta_range m t pass v)) new start q h r)
    (records_from start old new r k)

-- the records between the logs of two valid states are read back
pub records_back : (S R : State) → Valid S → Valid R → (rest : List ℕ)
    → let l = records_between S R in read_records (length l) (records_bytes l ++ rest) ≡ some l
records_back S R p q rest =
    read_records_lem (records_between S R) rest
    (records_readable (start_values S) (log_of S) (log_of R) (start_range S p) (log_passes S p) (log_passes R q))
