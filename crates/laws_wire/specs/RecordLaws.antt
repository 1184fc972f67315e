-- The records of a log's deltas and of those between two logs: cut where the log is cut, their steps, with room for their pairs.
use Rattle.std.specs.Prelude.{◌≡◌, refl, ◌⊎◌, List, [], ◌∷◌, ◌++◌, map, reverse, ℕ, zero, suc, ◌+◌, ◌≤◌, length, take, drop, T, ℤ}
use Rattle.std.proofs.Common.{sym, ◌∙◌, ap, ap₂, subst, inl, inr, ⊎_elim, arith}
use mathlib.Core.List.Memᴰ
use Rattle.std.proofs.lemmas.List.{map-append, length-map, length-reverse}
use Rattle.std.proofs.Math.Seq.{drop-length}
use Rattle.model.specs.Lists.{◌∈◌}
use Rattle.model.specs.Layout.{command_size, most_commands}
use Rattle.model.specs.Message.{Message, dependency_count, command_count, commands_start, commands_of, sequence_of, passes}
use Rattle.model.specs.Order.{sequences_of}
use Rattle.model.specs.Setpoints.{changes_by, changes_of, run_command, run_delta, run_log}
use Rattle.model.specs.Steps.{Step, undo, execute, common, steps_of, undos_of, executions_of, pair_of, StepRecord, execution_of, undo_of, along, records_of}
use Rattle.laws_order.specs.ListLaws.{drop_map, map_reverse, ∈_drop, ∈_reverse}
use Rattle.laws_order.specs.StepLaws.{common_self, steps_counted}
use Rattle.laws_wire.specs.BytesLaws.{length_parts}
use Rattle.laws_wire.specs.MessageLaws.{layout_sized, passes_layout}
use Rattle.laws_wire.specs.StepBytesLaws.{Fits}

-- ---- the records of the deltas past a place
pub along_drop : (f : Message → List ℤ → StepRecord) (n : ℕ) (l : List Message) (values : List ℤ)
    → drop n (along f l values) ≡ along f (drop n l) (run_log (take n l) values)
along_drop f zero l values = refl
along_drop f (suc n) [] values = refl
along_drop f (suc n) (m ∷ l) values = along_drop f n l (run_delta m values)

pub length_along : (f : Message → List ℤ → StepRecord) (l : List Message) (values : List ℤ) → length (along f l values) ≡ length l
length_along f [] values = refl
length_along f (m ∷ l) values = ap suc (length_along f l (run_delta m values))

-- ---- the steps of the records between two logs
abbrev step_of : StepRecord → Step
step_of r = r.step

along_steps : (f : Message → List ℤ → StepRecord) (g : ℕ → Step) → ((m : Message) (values : List ℤ) → step_of (f m values) ≡ g (sequence_of m))
    → (l : List Message) (values : List ℤ) → map step_of (along f l values) ≡ map g (sequences_of l)
along_steps f g is [] values = refl
along_steps f g is (m ∷ l) values = ap₂ ◌∷◌ (is m values) (along_steps f g is l (run_delta m values))

-- and so past a place
dropped : (f : Message → List ℤ → StepRecord) (g : ℕ → Step) → ((m : Message) (values : List ℤ) → step_of (f m values) ≡ g (sequence_of m))
    → (n : ℕ) (l : List Message) (values : List ℤ) → map step_of (drop n (along f l values)) ≡ map g (drop n (sequences_of l))
dropped f g is n l values = sym (drop_map n step_of (along f l values)) ∙ ap (drop n) (along_steps f g is l values) ∙ drop_map n g (sequences_of l)

pub records_steps : (start : List ℤ) (old new : List Message) → map (λ r. r.step) (records_of start old new) ≡ steps_of (sequences_of old) (sequences_of new)
unfolding records_of undo_of execution_of
records_steps start old new =
    let kept = common (sequences_of old) (sequences_of new) in
    map-append step_of (reverse (drop kept (along undo_of old start))) (drop kept (along execution_of new start))
    ∙ ap₂ ◌++◌
    (map_reverse step_of (drop kept (along undo_of old start)) ∙ ap reverse (dropped undo_of undo (λ m values. refl) kept old start) ∙ sym (map_reverse undo (drop kept (sequences_of old))))
    (dropped execution_of execute (λ m values. refl) kept new start)

pub records_counted : (start : List ℤ) (old new : List Message)
    → length (records_of start old new) ≡ undos_of (sequences_of old) (sequences_of new) + executions_of (sequences_of old) (sequences_of new)
records_counted start old new =
    sym (length-map (records_of start old new) step_of) ∙ ap length (records_steps start old new) ∙ steps_counted (sequences_of old) (sequences_of new)

-- from a log to itself there is no record
pub records_self : (start : List ℤ) (l : List Message) → records_of start l l ≡ []
unfolding records_of
records_self start l =
    ap₂ (λ (a b : List StepRecord). reverse a ++ b) (none undo_of) (none execution_of)
  where
    none : (f : Message → List ℤ → StepRecord) → drop (common (sequences_of l) (sequences_of l)) (along f l start) ≡ []
    none f =
        ap (λ (n : ℕ). drop n (along f l start)) (common_self (sequences_of l) ∙ length-map l sequence_of ∙ sym (length_along f l start))
        ∙ drop-length (along f l start)

-- ---- a delta has a change for each command, so that its record has room for its pairs
pub length_changes : (l : List (List ℕ)) (values : List ℤ) → length (changes_by l values) ≡ length l
length_changes [] values = refl
length_changes (c ∷ l) values = ap suc (length_changes l (run_command c values))

delta_changes : (m : Message) (values : List ℤ) → T (passes m) → length (changes_of m values) ≤ most_commands
unfolding changes_of
delta_changes m values t =
    omega (arith, length_changes (commands_of m) values, length_parts (command_count m) command_size (drop (commands_start (dependency_count m)) m), (layout_sized m (passes_layout m t)).commands)

pub execution_fits : (m : Message) (values : List ℤ) → T (passes m) → Fits (execution_of m values)
unfolding execution_of
execution_fits m values t = omega (arith, length-map (changes_of m values) (λ c. pair_of c.tag c.after), delta_changes m values t)

pub undo_fits : (m : Message) (values : List ℤ) → T (passes m) → Fits (undo_of m values)
unfolding undo_of
undo_fits m values t =
    omega (
      arith,
      length-reverse (map (λ c. pair_of c.tag c.before) (changes_of m values)),
      length-map (changes_of m values) (λ c. pair_of c.tag c.before),
      delta_changes m values t,
    )

-- ---- each record of a log's deltas, and of those between two logs
pub along_each : (P : StepRecord → Type 0) (Q : List ℤ → Type 0) (f : Message → List ℤ → StepRecord)
    → ((m : Message) (values : List ℤ) → T (passes m) → Q values → P (f m values) × Q (run_delta m values))
    → (l : List Message) (values : List ℤ) → ((m : Message) → m ∈ l → T (passes m)) → Q values → (r : StepRecord) → r ∈ along f l values → P r
along_each P Q f each [] values pass v r k = absurd (Memᴰ.not-nil k)
along_each P Q f each (m ∷ l) values pass v r k =
    let first = each m values (pass m (Memᴰ.head refl)) v in
    ⊎_elim (λ e. subst P (sym e) first.0) (along_each P Q f each l (run_delta m values) (λ x j. pass x (Memᴰ.tail j)) first.1 r) (Memᴰ.cases_cons k)

pub along_fits : (f : Message → List ℤ → StepRecord) → ((m : Message) (values : List ℤ) → T (passes m) → Fits (f m values))
    → (l : List Message) (values : List ℤ) → ((m : Message) → m ∈ l → T (passes m)) → (r : StepRecord) → r ∈ along f l values → Fits r
along_fits f fits l values pass = along_each Fits (λ v. Unit {0}) f (λ m v t u. (fits m v t, tt)) l values pass tt

pub records_from : (start : List ℤ) (old new : List Message) (r : StepRecord) → r ∈ records_of start old new → (r ∈ along undo_of old start) ⊎ (r ∈ along execution_of new start)
unfolding records_of
records_from start old new r k =
    let kept = common (sequences_of old) (sequences_of new) in
    ⊎_elim (λ j. inl (∈_drop kept (along undo_of old start) (∈_reverse (drop kept (along undo_of old start)) j))) (λ j. inr (∈_drop kept (along execution_of new start) j))
    (Memᴰ.append_cases (reverse (drop kept (along undo_of old start))) k)
