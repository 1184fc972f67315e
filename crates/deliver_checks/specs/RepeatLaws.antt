-- Code 7 by the place where the message's sequence was looked for.
use Rattle.std.specs.Prelude.{◌≡◌, Bool, false, not, ◌&&◌, List, [], ℕ, get_or}
use Rattle.std.proofs.Common.{sym, ◌∙◌, ap, ap₂}
use Rattle.std.proofs.Math.Bool.{and-false}
use Rattle.model.specs.Lists.{same}
use Rattle.model.specs.Message.{Message, sequence_of}
use Rattle.model.specs.Order.{purged, find}
use Rattle.model.specs.Codes.{present, conflicts}
use Rattle.laws_order.specs.TestLaws.{is_false}
use Rattle.set_table.specs.Table.{deltas_of, set_in, Holds}
use Rattle.set_table.specs.Places.{IsPresent, IsAbsent}
use Rattle.set_table.specs.FindLaws.{present_member, present_has, present_find, absent_has}

module _ (pool starts : List ℕ) (m : Message) where
  -- what is present is above its floor
  present_above : (i : ℕ) → IsPresent pool starts (sequence_of m) i → Holds pool starts → purged (set_in pool starts) (sequence_of m) ≡ false
  present_above i here holds =
      ap (purged (set_in pool starts)) (sym here.here)
      ∙ is_false _ (holds.above (get_or (deltas_of pool starts) i []) (present_member pool starts (sequence_of m) i here))

  pub present_conflicts : (i : ℕ) → IsPresent pool starts (sequence_of m) i → Holds pool starts
      → conflicts (set_in pool starts) m ≡ not (same (get_or (deltas_of pool starts) i []) m)
  present_conflicts i here holds =
      ap (λ (t : Bool). not t && present (set_in pool starts) (sequence_of m) && not (same (find (deltas_of pool starts) (sequence_of m)) m)) (present_above i here holds)
      ∙ ap₂ (λ (t : Bool) (x : Message). t && not (same x m)) (present_has pool starts (sequence_of m) i here) (present_find pool starts (sequence_of m) i here holds)

  pub absent_conflicts : (p : ℕ) → IsAbsent pool starts (sequence_of m) p → conflicts (set_in pool starts) m ≡ false
  absent_conflicts p absent =
      ap (λ (t : Bool). not (purged (set_in pool starts) (sequence_of m)) && t && not (same (find (deltas_of pool starts) (sequence_of m)) m)) (absent_has pool starts (sequence_of m) p absent)
      ∙ ap (λ (t : Bool). t && not (same (find (deltas_of pool starts) (sequence_of m)) m)) (and-false (not (purged (set_in pool starts) (sequence_of m))))
