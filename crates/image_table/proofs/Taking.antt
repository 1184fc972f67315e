-- One message looked for among those that are there: it is refused where its sequence is found, and joins them where it is not.
use Rattle.std.specs.Prelude.{◌≡◌, Bool, true, false, not, List, ℕ, ◌<◌, length, T}
use Rattle.std.proofs.Common.{sym, ◌∙◌, ap, subst}
use Rattle.model.specs.Layout.{capacity}
use Rattle.model.specs.Message.{sequence_of}
use Rattle.model.specs.Order.{purged}
use Rattle.laws_order.specs.TestLaws.{or_r, is_true, true_T}
use Rattle.message_sequence.specs.declared.Sequence.{Sequence}
use Rattle.message_sequence.specs.Sequence.{sequence_number}
use Rattle.set_table.specs.Table.{message_from, deltas_of, set_in, insert_at, Holds}
use Rattle.set_table.specs.Places.{IsPresent, IsAbsent}
use Rattle.set_table.specs.FindLaws.{present_has, absent_has}
use Rattle.set_table.specs.InsertLaws.{insert_deltas, insert_holds}
use Rattle.image_table.specs.TableReading.{IsMessage, known, unfit, IsTaken}

module _ (b l : List ℕ) {at : ℕ} {s : Sequence} (m : IsMessage b at s) where
  pub found_unfit : {i : ℕ} → IsPresent b l (sequence_number s) i → unfit b l at ≡ true
  found_unfit {i} here =
      let n = sequence_of (message_from b at) in
      let there : known b l at ≡ true = present_has b l n i (subst (λ (x : ℕ). IsPresent b l x i) m.sequence here) in
      is_true (unfit b l at) (or_r (purged (set_in b l) n) (known b l at) (true_T (known b l at) there))

  pub joins : {p : ℕ} {next : List ℕ} → next ≡ insert_at p at l → IsAbsent b l (sequence_number s) p → Holds b l → length l < capacity
      → purged (set_in b l) (sequence_number s) ≡ false → IsTaken b l at next
  joins {p} {next} e absent holds room high =
      let n = sequence_of (message_from b at) in
      let h : IsAbsent b l n p = subst (λ (x : ℕ). IsAbsent b l x p) m.sequence absent in
      let above : purged (set_in b l) n ≡ false = subst (λ (x : ℕ). purged (set_in b l) x ≡ false) m.sequence high in
      record {
        new = absent_has b l n p h;
        holds = subst (Holds b) (sym e) (insert_holds b at p l holds h m.pass (subst (λ (t : Bool). T (not t)) (sym above) tt) room);
        deltas = ap (deltas_of b) e ∙ insert_deltas b at p l h;
      }
