-- The records of a log, written one by one while the log is run.
use Rattle.std.specs.Prelude.{◌≡◌, refl, List, [], ◌∷◌, ℕ, ◌+◌, ◌*◌, ◌-◌, ◌≤◌, ◌<◌, T, ℤ, length, drop, get_or}
use Rattle.std.proofs.Common.{sym, ◌∙◌, ap, ap₂, subst, arith, length-drop}
use Rattle.std.proofs.Math.Seq.{paste}
use Rattle.model.specs.Layout.{step_size}
use Rattle.model.specs.Message.{Message, passes}
use Rattle.model.specs.Setpoints.{run_delta}
use Rattle.model.specs.Steps.{StepRecord, along, record_bytes}
use Rattle.laws_order.specs.ListLaws.{drop_map}
use Rattle.laws_wire.specs.RecordLaws.{length_along}
use Rattle.laws_wire.specs.StepBytesLaws.{Fits}
use Rattle.set_table.specs.Table.{deltas_of, deltas_at}
use Rattle.image_sections.specs.LogPlaceLaws.{deltas_count, delta_passes, next_delta, no_delta}
use Rattle.step_pairs.specs.declared.kinds.Kind.{Kind}
use Rattle.step_pairs.specs.declared.kinds.Kind.TheVariants.{Undo, Execute}
use Rattle.step_pairs.specs.Kinds.{place_by, listed_by}
use Rattle.step_pairs.specs.KindLaws.{place_inside}
use Rattle.step_records.specs.Records.{record_by}
use Rattle.step_records.specs.RecordLaws.{record_fits}
use Rattle.deliver_steps.specs.Room.{records_at, RestFits}
use Rattle.deliver_steps.specs.RecordPlaceLaws.{AllFit, records_none, execution_next, undo_next}
use Rattle.deliver_steps.specs.StepsWritten.{rest_fits}
use Rattle.deliver_steps.specs.Putting.{rest_at, records_from, Putting}

-- ---- of either kind
rest_start : (kind : Kind) (at k : ℕ) → k ≡ 0 → rest_at kind at k ≡ at
rest_start Undo at k e = refl
rest_start Execute at k e = omega arith

none_listed : (kind : Kind) → ◌≡◌ {A = List StepRecord} (listed_by kind []) []
none_listed Undo = refl
none_listed Execute = refl

-- the record of the delta after the first k, and those that follow it
record_next : (kind : Kind) (b : List ℕ) (at k : ℕ) (r : StepRecord) (l : List StepRecord) → Fits r → AllFit l → at + step_size * (k + length (r ∷ l)) ≤ length b
    → records_at (paste b (at + step_size * place_by kind (k + length (r ∷ l)) k) (record_bytes r) step_size) (rest_at kind at (k + 1)) (listed_by kind l)
    ≡ records_at b (rest_at kind at k) (listed_by kind (r ∷ l))
record_next Undo b at k r l fit fits h = undo_next b at (at + step_size * (k + length (r ∷ l) - 1 - k)) r l fits (omega arith) (omega arith)
record_next Execute b at k r l fit fits h =
    ap (λ (n : ℕ). records_at (paste b (at + step_size * k) (record_bytes r) step_size) n l) {x = at + step_size * (k + 1)} {y = at + step_size * k + step_size} (omega arith)
    ∙ execution_next b (at + step_size * k) r l fit (omega arith)

-- ---- of a table's log
module _ (kind : Kind) (pool starts log : List ℕ) (kept at : ℕ) (values : List ℤ) (entry : List ℕ) (f : RestFits pool starts log kept at (length entry)) where
  abbrev l : List Message
  l = deltas_at (deltas_of pool starts) log

  count : length l ≡ length log
  count = deltas_count (deltas_of pool starts) log

  pub putting_none : Putting kind pool starts log kept at values entry kept values entry
  putting_none = record {
    behind = omega arith;
    inside = f.start;
    size = refl;
    records = ap (λ (n : ℕ). records_at entry n (records_from kind l kept values)) (rest_start kind at (kept - kept) (omega arith));
  }

  -- the record at i has room
  pub putting_room : (i : ℕ) → kept ≤ i → i < length log → at + step_size * place_by kind (length log - kept) (i - kept) + step_size ≤ length entry
  putting_room i p q = omega (arith, f.room, place_inside kind (length log - kept) (i - kept) (omega arith))

  -- those from i on fit
  rest_all_fit : (i : ℕ) (current : List ℤ) → AllFit (along (record_by kind) (drop i l) current)
  rest_all_fit i current =
      subst (λ (x : List Message). AllFit (along (record_by kind) x current)) (sym (drop_map i (λ (j : ℕ). get_or (deltas_of pool starts) j []) log))
      (rest_fits (record_by kind) (record_fits kind) pool starts log f.inside i current)

  pub putting_more : {i : ℕ} {current next : List ℤ} {steps then : List ℕ} {m : Message} → Putting kind pool starts log kept at values entry i current steps → i < length log
      → m ≡ get_or l i [] → then ≡ paste steps (at + step_size * place_by kind (length log - kept) (i - kept)) (record_bytes (record_by kind m current)) step_size → next ≡ run_delta m current
      → length then ≡ length entry → Putting kind pool starts log kept at values entry (i + 1) next then
  putting_more {i} {current} {next} {steps} {then} {m} p h e w g size = record {
    behind = omega (arith, p.behind);
    inside = omega arith;
    size = size;
    records = ap₂ (λ (b : List ℕ) (v : List ℤ). records_at b (rest_at kind at (i + 1 - kept)) (records_from kind l (i + 1) v)) w g
        ∙ ap (λ (n : ℕ). records_at put (rest_at kind at n) (listed_by kind rest)) {x = i + 1 - kept} {y = i - kept + 1} (omega (arith, p.behind))
        ∙ ap (λ (n : ℕ). records_at (paste steps (at + step_size * place_by kind n (i - kept)) (record_bytes r) step_size) (rest_at kind at (i - kept + 1)) (listed_by kind rest))
        {x = length log - kept} {y = i - kept + length (r ∷ rest)} (omega (arith, p.behind, left))
        ∙ record_next kind steps at (i - kept) r rest (record_fits kind m current right) (rest_all_fit (i + 1) (run_delta m current)) (omega (arith, p.behind, p.size, left, f.room))
        ∙ ap (λ (x : List Message). records_at steps (rest_at kind at (i - kept)) (listed_by kind (along (record_by kind) x current)))
        (ap (λ (x : Message). x ∷ drop (i + 1) l) e ∙ sym (next_delta l i (omega (arith, count)))) ∙ p.records;
  }
    where
      r : StepRecord
      r = record_by kind m current

      rest : List StepRecord
      rest = along (record_by kind) (drop (i + 1) l) (run_delta m current)

      put : List ℕ
      put = paste steps (at + step_size * place_by kind (length log - kept) (i - kept)) (record_bytes r) step_size

      left : length rest ≡ length log - (i + 1)
      left = length_along (record_by kind) (drop (i + 1) l) (run_delta m current) ∙ length-drop (i + 1) l ∙ ap (λ (n : ℕ). n - (i + 1)) count

      right : T (passes m)
      right = delta_passes pool starts log f.inside e h

  pub putting_all : {i : ℕ} {current : List ℤ} {steps : List ℕ} → Putting kind pool starts log kept at values entry i current steps → length log ≤ i
      → steps ≡ records_at entry at (listed_by kind (along (record_by kind) (deltas_at (deltas_of pool starts) (drop kept log)) values))
  putting_all {i} {current} {steps} p h =
      sym (records_none steps (rest_at kind at (i - kept))) ∙ ap (records_at steps (rest_at kind at (i - kept))) (sym none) ∙ p.records
      ∙ ap (λ (x : List Message). records_at entry at (listed_by kind (along (record_by kind) x values))) (drop_map kept (λ (j : ℕ). get_or (deltas_of pool starts) j []) log)
    where
      none : records_from kind l i current ≡ []
      none = ap (λ (x : List Message). listed_by kind (along (record_by kind) x current)) (no_delta l i (omega (arith, count))) ∙ none_listed kind
