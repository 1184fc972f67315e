-- The undos of the old log and behind them the executions of the new one, each run from what is kept: together they are the steps from
-- the old log to the new one.
use Rattle.std.specs.Prelude.{◌≡◌, ℕ, ◌+◌, ◌*◌, ◌-◌, T, ℤ, length, take, get_or}
use Rattle.std.proofs.Math.Path.{sym, ap, ap₂}
use Rattle.std.proofs.Common.{◌∙◌, subst, ⊎_elim, arith, length-drop}
use mathlib.Core.List.Memᴰ
use mathlib.Core.List.{List, [], ◌++◌, reverse}
use Rattle.std.proofs.Math.ListN.{drop}
use Rattle.std.proofs.lemmas.List.{length-map, length-reverse}
use Rattle.model.specs.Lists.{◌∈◌}
use Rattle.model.specs.Layout.{step_size}
use Rattle.model.specs.Message.{Message, sequence_of, passes}
use Rattle.model.specs.Order.{sequences_of}
use Rattle.model.specs.Setpoints.{run_log}
use Rattle.model.specs.Steps.{common, StepRecord, execution_of, undo_of, along, records_of, records_bytes}
use Rattle.model.specs.Calls.{written}
use Rattle.laws_order.specs.ListLaws.{map_map, take_map, drop_map, ∈_drop, ∈_reverse}
use Rattle.laws_order.specs.CommonLaws.{common_start}
use Rattle.laws_wire.specs.StepBytesLaws.{Fits}
use Rattle.laws_wire.specs.RecordLaws.{along_drop, length_along, along_fits, execution_fits, undo_fits}
use Rattle.set_table.specs.Table.{deltas_of, deltas_at}
use Rattle.set_table.specs.PlaceLaws.{entry_passes}
use Rattle.image_sections.specs.LogPlaces.{TablePlaces}
use Rattle.deliver_steps.specs.PlacedLogs.{common_names}
use Rattle.deliver_steps.specs.Room.{records_at, StepsFit}
use Rattle.deliver_steps.specs.RecordPlaceLaws.{AllFit, records_more, records_front}

-- ---- the deltas at a table's places pass, so that their records fit
places_pass : (pool starts places : List ℕ) → TablePlaces pool starts places → (m : Message) → m ∈ deltas_at (deltas_of pool starts) places → T (passes m)
places_pass pool starts places p m k =
    let r = Memᴰ.of_map (λ (i : ℕ). get_or (deltas_of pool starts) i []) places k in
    subst (λ (x : Message). T (passes x)) r.2 (entry_passes pool starts p.holds r.0 (p.inside r.0 r.1))

pub rest_fits : (f : Message → List ℤ → StepRecord) → ((m : Message) (values : List ℤ) → T (passes m) → Fits (f m values))
    → (pool starts places : List ℕ) → TablePlaces pool starts places → (n : ℕ) (values : List ℤ) → AllFit (along f (deltas_at (deltas_of pool starts) (drop n places)) values)
rest_fits f fits pool starts places p n values =
    along_fits f fits (deltas_at (deltas_of pool starts) (drop n places)) values
    (places_pass pool starts (drop n places) (record { holds = p.holds; inside = λ i k. p.inside i (∈_drop n places k) }))

pub rest_length : (f : Message → List ℤ → StepRecord) (l : List Message) (places : List ℕ) (n : ℕ) (values : List ℤ)
    → length (along f (deltas_at l (drop n places)) values) ≡ length places - n
rest_length f l places n values =
    length_along f (deltas_at l (drop n places)) values ∙ length-map (drop n places) (λ i. get_or l i []) ∙ length-drop n places

-- ---- the records of a log past its first places, by the deltas there
rest_is : (f : Message → List ℤ → StepRecord) (l : List Message) (places : List ℕ) (n : ℕ) (start : List ℤ)
    → drop n (along f (deltas_at l places) start) ≡ along f (deltas_at l (drop n places)) (run_log (deltas_at l (take n places)) start)
rest_is f l places n start =
    along_drop f n (deltas_at l places) start
    ∙ ap₂ (λ (d t : List Message). along f d (run_log t start)) (drop_map n (λ i. get_or l i []) places) (take_map n (λ i. get_or l i []) places)

module _ (pool starts old new : List ℕ) (kept : ℕ) (b : List ℕ) (f : StepsFit pool starts old new kept (length b)) (start values : List ℤ)
    (run : values ≡ run_log (deltas_at (deltas_of pool starts) (take kept old)) start) where
  abbrev deltas : List Message
  deltas = deltas_of pool starts

  abbrev undos : List StepRecord
  undos = reverse (along undo_of (deltas_at deltas (drop kept old)) values)

  abbrev executions : List StepRecord
  executions = along execution_of (deltas_at deltas (drop kept new)) values

  undos_all_fit : AllFit undos
  undos_all_fit r k = rest_fits undo_of undo_fits pool starts old f.old_inside kept values r (∈_reverse (along undo_of (deltas_at deltas (drop kept old)) values) k)

  all_fit : AllFit (undos ++ executions)
  all_fit r k = ⊎_elim (undos_all_fit r) (rest_fits execution_of execution_fits pool starts new f.new_inside kept values r) (Memᴰ.append_cases undos k)

  undos_count : length undos ≡ length old - kept
  undos_count = length-reverse (along undo_of (deltas_at deltas (drop kept old)) values) ∙ rest_length undo_of deltas old kept values

  -- what is kept of the new log is what is kept of the old one
  same_start : take kept old ≡ take kept new
  same_start = ap (λ (n : ℕ). take n old) f.start ∙ common_start old new ∙ ap (λ (n : ℕ). take n new) (sym f.start)

  common_is : kept ≡ common (sequences_of (deltas_at deltas old)) (sequences_of (deltas_at deltas new))
  common_is =
      f.start ∙ sym (common_names pool starts old new f.old_inside.holds f.old_inside.inside f.new_inside.inside)
      ∙ ap₂ common (sym (map_map sequence_of (λ i. get_or deltas i []) old)) (sym (map_map sequence_of (λ i. get_or deltas i []) new))

  records_are : undos ++ executions ≡ records_of start (deltas_at deltas old) (deltas_at deltas new)
  unfolding records_of
  records_are =
      ap₂ (λ (x y : List StepRecord). reverse x ++ y)
      (ap (along undo_of (deltas_at deltas (drop kept old))) run ∙ sym (rest_is undo_of deltas old kept start))
      (ap (along execution_of (deltas_at deltas (drop kept new))) (run ∙ ap (λ (l : List ℕ). run_log (deltas_at deltas l) start) same_start) ∙ sym (rest_is execution_of deltas new kept start))
      ∙ ap (λ (n : ℕ). reverse (drop n (along undo_of (deltas_at deltas old) start)) ++ drop n (along execution_of (deltas_at deltas new) start)) common_is

  pub steps_written : {undone executed : List ℕ} → undone ≡ records_at b 0 undos → executed ≡ records_at undone (step_size * (length old - kept)) executions
      → executed ≡ written (records_bytes (records_of start (deltas_at deltas old) (deltas_at deltas new))) b
  steps_written first second =
      let count = undos_count in
      let size : step_size * (length old - kept) ≡ 0 + step_size * length undos = omega arith in
      second
      ∙ ap₂ (λ (x : List ℕ) (n : ℕ). records_at x n executions) first size
      ∙ records_more b 0 undos executions undos_all_fit (omega (arith, f.room))
      ∙ records_front b (undos ++ executions) all_fit
      ∙ ap (λ (l : List StepRecord). written (records_bytes l) b) records_are
