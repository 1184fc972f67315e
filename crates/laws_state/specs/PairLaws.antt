-- The pairs of the records between two logs can be played: from the setpoints of the old log, where its executions stand, to those of
-- the new one. And pairs that are played lead to one list of values at the most.
use Rattle.std.specs.Prelude.{◌≡◌, refl, ℕ, zero, suc, length, take, drop, get_or, set, ℤ, pos}
use Rattle.std.proofs.Common.{sym, ◌∙◌, ap, ap₂, subst, arith, take-append-drop, set-set}
use mathlib.Core.List.Memᴰ
use mathlib.Core.List.{List, [], ◌∷◌, ◌++◌, map, reverse, reverse_aux, reverse_aux-eq, reverse-cons, reverse-reverse}
use Rattle.std.proofs.lemmas.List.{set-get_or}
use Rattle.model.specs.Lists.{◌∈◌}
use Rattle.model.specs.Message.{Message, sequence_of, commands_of}
use Rattle.model.specs.Order.{State, Ascending, sequences_of, log_of}
use Rattle.model.specs.Setpoints.{start_values, Change, change_of, apply, run_command, run_commands, changes_by, run_delta, changes_of, run_log, setpoints_of}
use Rattle.model.specs.Steps.{common, Pair, pair_of, values_after, values_restored, StepRecord, execution_of, undo_of, along, records_of, records_between, set_pairs, found_by, Standing, PlaysPairs}
use Rattle.laws_order.specs.CommonLaws.{common_start}
use Rattle.laws_wire.specs.RecordLaws.{along_drop}
use Rattle.laws_origin.specs.OriginLaws.{start_same}
use Rattle.laws_state.specs.SetLaws.{ascending_names}
use Rattle.laws_state.specs.LogLaws.{log_received}

-- ---- a delta's pairs
abbrev before_pairs : List Change → List Pair
before_pairs l = map (λ c. pair_of c.tag c.before) l

after_set : (l : List (List ℕ)) (values : List ℤ) → set_pairs (values_after (changes_by l values)) values ≡ run_commands l values
unfolding run_command apply
after_set [] values = refl
after_set (c ∷ l) values = after_set l (run_command c values)

after_found : (l : List (List ℕ)) (values : List ℤ) → found_by (values_after (changes_by l values)) values ≡ before_pairs (changes_by l values)
unfolding run_command apply change_of
after_found [] values = refl
after_found (c ∷ l) values = ap (λ (r : List Pair). pair_of (change_of c values).tag (change_of c values).before ∷ r) (after_found l (run_command c values))

set_pairs_append : (l k : List Pair) (values : List ℤ) → set_pairs (l ++ k) values ≡ set_pairs k (set_pairs l values)
set_pairs_append [] k values = refl
set_pairs_append (p ∷ l) k values = set_pairs_append l k (set values p.tag p.value)

before_set : (l : List (List ℕ)) (values : List ℤ) → set_pairs (values_restored (changes_by l values)) (run_commands l values) ≡ values
unfolding run_command apply change_of
before_set [] values = refl
before_set (c ∷ l) values =
    let change = change_of c values in
    let later = before_pairs (changes_by l (run_command c values)) in
    let first = pair_of change.tag change.before in
    ap (λ (r : List Pair). set_pairs r (run_commands l (run_command c values))) (reverse-cons first later)
    ∙ set_pairs_append (reverse later) (first ∷ []) (run_commands l (run_command c values))
    ∙ ap (set_pairs (first ∷ [])) (before_set l (run_command c values))
    ∙ set-set values change.tag change.after change.before
    ∙ set-get_or values change.tag (pos 0)

-- an execution leads where its delta does, and an undo back
execution_sets : (m : Message) (values : List ℤ) → set_pairs (execution_of m values).pairs values ≡ run_delta m values
unfolding execution_of changes_of run_delta
execution_sets m values = after_set (commands_of m) values

undo_sets : (m : Message) (values : List ℤ) → set_pairs (undo_of m values).pairs (run_delta m values) ≡ values
unfolding undo_of changes_of run_delta
undo_sets m values = before_set (commands_of m) values

-- what the execution finds is what the undo restores, last first
undo_found : (m : Message) (values : List ℤ) → found_by (execution_of m values).pairs values ≡ reverse (undo_of m values).pairs
unfolding execution_of undo_of changes_of
undo_found m values = after_found (commands_of m) values ∙ sym (reverse-reverse (before_pairs (changes_by (commands_of m) values)))

-- ---- whole logs
-- What stands of a delta's execution that finds these values.
abbrev standing_of : Message → List ℤ → Standing
standing_of m values = record { sequence = sequence_of m; found = found_by (execution_of m values).pairs values }

-- The executions of a log, on top of those that stand already: the latest first.
abbrev pub standing_by : List Standing → List Message → List ℤ → List Standing
standing_by earlier [] values = earlier
standing_by earlier (m ∷ l) values = standing_by (standing_of m values ∷ earlier) l (run_delta m values)

pub standing_append : (earlier : List Standing) (l k : List Message) (values : List ℤ)
    → standing_by earlier (l ++ k) values ≡ standing_by (standing_by earlier l values) k (run_log l values)
standing_append earlier [] k values = refl
standing_append earlier (m ∷ l) k values = standing_append (standing_of m values ∷ earlier) l k (run_delta m values)

pub run_append : (l k : List Message) (values : List ℤ) → run_log (l ++ k) values ≡ run_log k (run_log l values)
run_append [] k values = refl
run_append (m ∷ l) k values = run_append l k (run_delta m values)

play_executions : (l : List Message) (earlier : List Standing) (values : List ℤ)
    → PlaysPairs earlier values (along execution_of l values) (standing_by earlier l values) (run_log l values)
unfolding execution_of
play_executions [] earlier values = (refl, refl)
play_executions (m ∷ l) earlier values =
    let now = standing_of m values ∷ earlier in
    let next = run_delta m values in
    (now, refl, subst (λ (t : List ℤ). PlaysPairs now t (along execution_of l next) (standing_by now l next) (run_log l next)) (sym (execution_sets m values)) (play_executions l now next))

play_undos : (l : List Message) (earlier : List Standing) (values : List ℤ) (rest : List StepRecord) (end : List Standing) (final : List ℤ)
    → PlaysPairs earlier values rest end final → PlaysPairs (standing_by earlier l values) (run_log l values) (reverse_aux (along undo_of l values) rest) end final
unfolding undo_of
play_undos [] earlier values rest end final h = h
play_undos (m ∷ l) earlier values rest end final h =
    play_undos l (standing_of m values ∷ earlier) (run_delta m values) (undo_of m values ∷ rest) end final (
      earlier,
      ap (λ (found : List Pair). record { sequence = sequence_of m; found = found } ∷ earlier) (undo_found m values),
      subst (λ (t : List ℤ). PlaysPairs earlier t rest end final) (sym (undo_sets m values)) h,
    )

-- ---- between two logs
-- Records that can be played from the setpoints of a log, where its executions stand on those of the past, to those of another.
abbrev Leads : List Standing → List ℤ → List Message → List StepRecord → List Message → Type 0
Leads past start old l new = PlaysPairs (standing_by past old start) (run_log old start) l (standing_by past new start) (run_log new start)

-- both go on from one start: down to it, and up again
parted : (past : List Standing) (start : List ℤ) (p q r : List Message)
    → Leads past start (p ++ q) (reverse_aux (along undo_of q (run_log p start)) (along execution_of r (run_log p start))) (p ++ r)
parted past start p q r =
    rw (standing_append past p q start, run_append p q start, standing_append past p r start, run_append p r start)
    (play_undos q (standing_by past p start) (run_log p start) _ _ _ (play_executions r (standing_by past p start) (run_log p start)))

-- where the sequences of two logs agree, their deltas do
same_start : (l k : List Message) → ((a b : Message) → a ∈ l → b ∈ k → sequence_of a ≡ sequence_of b → a ≡ b)
    → (n : ℕ) → take n (sequences_of l) ≡ take n (sequences_of k) → take n l ≡ take n k
same_start l k f zero e = refl
same_start [] [] f (suc n) e = refl
same_start [] (b ∷ k) f (suc n) e = let z : ⊥ = omega (arith, ap length e) in absurd z
same_start (a ∷ l) [] f (suc n) e = let z : ⊥ = omega (arith, ap length e) in absurd z
same_start (a ∷ l) (b ∷ k) f (suc n) e =
    ap₂ ◌∷◌ (f a b (Memᴰ.head refl) (Memᴰ.head refl) (ap (λ (s : List ℕ). get_or s 0 0) e))
    (same_start l k (λ x y p q. f x y (Memᴰ.tail p) (Memᴰ.tail q)) n (ap (drop 1) e))

records_play : (past : List Standing) (start : List ℤ) (old new : List Message) → ((a b : Message) → a ∈ old → b ∈ new → sequence_of a ≡ sequence_of b → a ≡ b)
    → Leads past start old (records_of start old new) new
unfolding records_of
records_play past start old new agree =
    subst (λ (l : List StepRecord). Leads past start old l new) records
    (subst (λ (l : List Message). Leads past start l between new) (take-append-drop kept old)
    (subst (Leads past start (take kept old ++ drop kept old) between) (ap (λ (l : List Message). l ++ drop kept new) same ∙ take-append-drop kept new)
    (parted past start (take kept old) (drop kept old) (drop kept new))))
  where
    kept : ℕ
    kept = common (sequences_of old) (sequences_of new)

    same : take kept old ≡ take kept new
    same = same_start old new agree kept (common_start (sequences_of old) (sequences_of new))

    between : List StepRecord
    between = reverse_aux (along undo_of (drop kept old) (run_log (take kept old) start)) (along execution_of (drop kept new) (run_log (take kept old) start))

    records : between ≡ reverse (drop kept (along undo_of old start)) ++ drop kept (along execution_of new start)
    records =
        reverse_aux-eq (along undo_of (drop kept old) (run_log (take kept old) start)) (along execution_of (drop kept new) (run_log (take kept old) start))
        ∙ ap₂ (λ (a b : List StepRecord). reverse a ++ b) (sym (along_drop undo_of kept old start))
        (ap (λ (l : List Message). along execution_of (drop kept new) (run_log l start)) same ∙ sym (along_drop execution_of kept new start))

-- ---- between two states of one origin, the first one's deltas among the second one's
-- The executions of a state's log, on top of those of the past.
abbrev pub standing_in : List Standing → State → List Standing
standing_in past S = standing_by past (log_of S) (start_values S)

pub state_pairs_play : (past : List Standing) (S R : State) → S.origin ≡ R.origin → Ascending S.deltas → Ascending R.deltas
    → ((m : Message) → m ∈ S.deltas → m ∈ R.deltas)
    → PlaysPairs (standing_in past S) (setpoints_of S) (records_between S R) (standing_in past R) (setpoints_of R)
unfolding setpoints_of
state_pairs_play past S R e p q all =
    subst (λ (v : List ℤ). PlaysPairs (standing_in past S) (setpoints_of S) (records_between S R) (standing_by past (log_of R) v) (run_log (log_of R) v)) (start_same S R e)
    (records_play past (start_values S) (log_of S) (log_of R) (λ a b j k. ascending_names R.deltas q a b (all a (log_received S p a j)) (log_received R q b k)))

-- ---- pairs lead to one list of values at the most, whatever stands
pub pairs_unique : (l : List StepRecord) (s t end other : List Standing) (values final last : List ℤ)
    → PlaysPairs s values l end final → PlaysPairs t values l other last → final ≡ last
pairs_unique [] s t end other values final last p q = sym p.1 ∙ q.1
pairs_unique (r ∷ l) s t end other values final last p q = pairs_unique l p.0 q.0 end other (set_pairs r.pairs values) final last p.2 q.2
