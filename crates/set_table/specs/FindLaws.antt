-- What `find` answers, in terms of the set: whether a sequence is present, and the message that it has.
use Rattle.std.specs.Prelude.{◌≡◌, true, false, List, [], ℕ, ◌<◌, length, get_or, ltb}
use Rattle.std.proofs.Common.{sym, ◌∙◌, ap, ⊎_elim, arith, ltb→lt, nltb→le}
use mathlib.Core.List.Memᴰ
use Rattle.model.specs.Lists.{◌∈◌, has}
use Rattle.model.specs.Message.{Message, sequence_of}
use Rattle.model.specs.Order.{sequences_of, find}
use Rattle.laws_order.specs.TestLaws.{decide, is_true, false_of, has→∈, ∈→has}
use Rattle.laws_order.specs.ListLaws.{∈_get_d}
use Rattle.laws_state.specs.SetLaws.{find_here}
use Rattle.set_table.specs.Table.{deltas_of, Holds}
use Rattle.set_table.specs.PlaceLaws.{entry_member}
use Rattle.set_table.specs.TableLaws.{deltas_length}
use Rattle.set_table.specs.Places.{sequence_in, IsPresent, IsAbsent}

module _ (pool starts : List ℕ) (s i : ℕ) (present : IsPresent pool starts s i) where
  pub present_member : get_or (deltas_of pool starts) i [] ∈ deltas_of pool starts
  present_member = entry_member pool starts i present.inside

  pub present_has : has s (sequences_of (deltas_of pool starts)) ≡ true
  present_has = is_true (has s (sequences_of (deltas_of pool starts))) (∈→has (Memᴰ.cast (sym present.here) (Memᴰ.map sequence_of present_member)))

  pub present_find : Holds pool starts → find (deltas_of pool starts) s ≡ get_or (deltas_of pool starts) i []
  present_find holds =
      ap (find (deltas_of pool starts)) (sym present.here)
      ∙ find_here (deltas_of pool starts) holds.ascends (get_or (deltas_of pool starts) i []) present_member

module _ (pool starts : List ℕ) (s p : ℕ) (absent : IsAbsent pool starts s p) where
  no_place : (k : ℕ) → k < length starts → sequence_in pool starts k ≡ s → ⊥
  no_place k q e = ⊎_elim
      (λ t. omega (arith, absent.before k (ltb→lt k p t)))
      (λ t. omega (arith, absent.after k (nltb→le k p t) q))
      (decide (ltb k p))

  pub absent_member : (m : Message) → m ∈ deltas_of pool starts → sequence_of m ≡ s → ⊥
  absent_member m k e =
      let r = ∈_get_d [] k in
      no_place r.0 (omega (arith, deltas_length pool starts, r.1)) (ap sequence_of r.2 ∙ e)

  pub absent_has : has s (sequences_of (deltas_of pool starts)) ≡ false
  absent_has = false_of (has s (sequences_of (deltas_of pool starts))) (λ t.
      let r = Memᴰ.of_map sequence_of (deltas_of pool starts) (has→∈ s (sequences_of (deltas_of pool starts)) t) in
      absent_member r.0 r.1 r.2)
