-- Records in a buffer one after the other: one more before those that follow it, or behind those that stand before it.
use Rattle.std.specs.Prelude.{◌≡◌, ℕ, ◌+◌, ◌*◌, ◌≤◌, length, drop}
use Rattle.std.proofs.Common.{sym, ◌∙◌, ap, ap₂, arith, length-append, take_all}
use mathlib.Core.List.{List, [], ◌∷◌, ◌++◌, map, reverse, reverse-cons, map-append, append-nil}
use Rattle.std.proofs.lemmas.List.{length-reverse}
use Rattle.std.proofs.Math.Seq.{paste, paste-zero}
use Rattle.model.specs.Lists.{◌∈◌}
use Rattle.model.specs.Bytes.{join}
use Rattle.model.specs.Layout.{step_size}
use Rattle.model.specs.Steps.{StepRecord, record_bytes, records_bytes}
use Rattle.model.specs.Calls.{written}
use Rattle.laws_order.specs.ListLaws.{∈_reverse}
use Rattle.laws_wire.specs.BytesLaws.{join_append}
use Rattle.laws_wire.specs.StepBytesLaws.{Fits, length_record, length_records_bytes}
use Rattle.buffer_writes.specs.PasteLaws.{paste_paste, paste_behind}
use Rattle.deliver_steps.specs.Room.{records_at}

abbrev pub AllFit : List StepRecord → Type 0
AllFit l = (r : StepRecord) → r ∈ l → Fits r

-- records in bytes are joined as lists are
records_append : (l k : List StepRecord) → records_bytes l ++ records_bytes k ≡ records_bytes (l ++ k)
records_append l k = join_append (map record_bytes l) (map record_bytes k) ∙ ap join (sym (map-append record_bytes l k))

pub records_none : (b : List ℕ) (at : ℕ) → records_at b at [] ≡ b
records_none b at = sym (paste-zero b at [])

-- records, and others behind them
pub records_more : (b : List ℕ) (at : ℕ) (l k : List StepRecord) → AllFit l → at + step_size * length l ≤ length b
    → records_at (records_at b at l) (at + step_size * length l) k ≡ records_at b at (l ++ k)
records_more b at l k fit h =
    paste_paste b at (records_bytes l) (records_bytes k) (step_size * length l) (step_size * length k) h (length_records_bytes l fit)
    ∙ ap₂ (paste b at) (records_append l k) count
  where
    count : step_size * length l + step_size * length k ≡ step_size * length (l ++ k)
    count = omega (arith, length-append l k)

-- one record, and those that follow it
pub execution_next : (b : List ℕ) (at : ℕ) (r : StepRecord) (l : List StepRecord) → Fits r → at + step_size ≤ length b
    → records_at (paste b at (record_bytes r) step_size) (at + step_size) l ≡ records_at b at (r ∷ l)
execution_next b at r l fit h =
    paste_paste b at (record_bytes r) (records_bytes l) step_size (step_size * length l) h (length_record r fit)
    ∙ ap (paste b at (record_bytes r ++ records_bytes l)) count
  where
    count : step_size + step_size * length l ≡ step_size * length (r ∷ l)
    count = omega arith

-- one record, and before it those that follow it, turned round
pub undo_next : (b : List ℕ) (at to : ℕ) (r : StepRecord) (l : List StepRecord) → AllFit l → to ≡ at + step_size * length l → to ≤ length b
    → records_at (paste b to (record_bytes r) step_size) at (reverse l) ≡ records_at b at (reverse (r ∷ l))
undo_next b at to r l fit e h =
    let n : ℕ = step_size * length (reverse l) in
    ap (λ (x : ℕ). paste (paste b x (record_bytes r) step_size) at (records_bytes (reverse l)) n) {x = to} {y = at + n} (omega (arith, length-reverse l))
    ∙ paste_behind b at (records_bytes (reverse l)) (record_bytes r) n step_size (omega (arith, length-reverse l)) (length_records_bytes (reverse l) (λ x k. fit x (∈_reverse l k)))
    ∙ ap₂ (paste b at) turned count
  where
    turned : records_bytes (reverse l) ++ record_bytes r ≡ records_bytes (reverse (r ∷ l))
    turned =
        ap (λ (x : List ℕ). records_bytes (reverse l) ++ x) (sym (append-nil (record_bytes r)))
        ∙ records_append (reverse l) (r ∷ []) ∙ ap records_bytes (sym (reverse-cons r l))

    count : step_size * length (reverse l) + step_size ≡ step_size * length (reverse (r ∷ l))
    count = omega (arith, length-reverse l, length-reverse (r ∷ l))

-- written at the front
pub records_front : (b : List ℕ) (l : List StepRecord) → AllFit l → records_at b 0 l ≡ written (records_bytes l) b
records_front b l fit =
    let e = length_records_bytes l fit in
    ap₂ (λ (x : List ℕ) (n : ℕ). x ++ drop n b) {u = 0 + step_size * length l} {v = length (records_bytes l)}
    (take_all (step_size * length l) (records_bytes l) (omega arith))
    (omega arith)
