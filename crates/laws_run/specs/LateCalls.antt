-- One call between two states, by the logs that it finds and leaves: a late arrival only squeezes in.
use Rattle.std.specs.Prelude.{◌≡◌, List, [], reverse, ℕ, ◌+◌, take, drop}
use Rattle.std.proofs.Common.{sym, ◌∙◌, ap, subst, take-append-drop}
use Rattle.std.proofs.Math.Option.{some, some-injective}
use mathlib.Core.List.Memᴰ
use Rattle.std.proofs.lemmas.List.{reverse-reverse}
use Rattle.model.specs.Lists.{◌∈◌, has, keep}
use Rattle.model.specs.Message.{Message, sequence_of}
use Rattle.model.specs.Order.{State, sequences_of, needs, Listing, log_of}
use Rattle.model.specs.Setpoints.{start_values}
use Rattle.model.specs.Image.{image_of, log_in, Valid}
use Rattle.model.specs.Steps.{common, steps_of, records_of, steps_in, read_steps}
use Rattle.model.specs.Calls.{Delivered}
use Rattle.model_runs.specs.SameOrder.{SameOrder}
use Rattle.model_runs.specs.Run.{Call, played_from, old_log, records_read, KeepsOrder, ExecutesAgain}
use Rattle.laws_order.specs.TestLaws.{∈→has}
use Rattle.laws_order.specs.KeepLaws.{keep_all}
use Rattle.laws_order.specs.ListLaws.{take_map, drop_map}
use Rattle.laws_order.specs.Behind.{parts_apart}
use Rattle.laws_wire.specs.RecordLaws.{records_steps}
use Rattle.laws_state.specs.LogLaws.{log_complete}
use Rattle.laws_state.specs.ImageLaws.{log_back}
use Rattle.laws_run.specs.SameOrderLaws.{left_out_order, rest_executed_again, steps_tell}

-- the steps of its records
pub steps_between : (S next : State) (c : Call) (a : Delivered) → records_read a ≡ some (records_of (start_values next) (old_log S c a.code) (log_of next))
    → read_steps (a.undos + a.executions) a.steps ≡ some (steps_of (sequences_of (old_log S c a.code)) (sequences_of (log_of next)))
steps_between S next c a records = ap steps_in records ∙ ap some (records_steps (start_values next) (old_log S c a.code) (log_of next))

-- The old log is the new one with the others left out.
abbrev pub LeftOut : State → State → Call → ℕ → Type 0
LeftOut S next c code = let old = sequences_of (old_log S c code) in keep (λ s. has s old) (sequences_of (log_of next)) ≡ old

-- So two stand in the same order, and do so in the images,
pub order_back : (S next : State) → Valid S → Valid next → (c : Call) (a : Delivered) → a.image ≡ image_of next → LeftOut S next c a.code → KeepsOrder (image_of S) c a
order_back S next v w c a is h =
    subst (λ (l : List Message). SameOrder (sequences_of (played_from c a.code l)) (sequences_of (log_in a.image))) (sym (log_back S v))
    (subst (λ (l : List Message). SameOrder (sequences_of (old_log S c a.code)) (sequences_of l)) (sym (ap log_in is ∙ log_back next w))
    (left_out_order (sequences_of (old_log S c a.code)) (sequences_of (log_of next)) h))

-- and what the steps undo they execute again.
pub again_back : (S next : State) → Valid next → (c : Call) (a : Delivered) → records_read a ≡ some (records_of (start_values next) (old_log S c a.code) (log_of next))
    → LeftOut S next c a.code → ExecutesAgain (record { call = c; answer = a })
again_back S next w c a records h undone executed taken =
    subst (λ (l : List ℕ). keep (λ s. has s l) executed ≡ reverse l) (sym told.0)
    (subst (λ (l : List ℕ). keep (λ s. has s (reverse (drop n old))) l ≡ reverse (reverse (drop n old))) (sym told.1)
    (rest_executed_again old new h apart ∙ sym (reverse-reverse (drop n old))))
  where
    old : List ℕ
    old = sequences_of (old_log S c a.code)

    new : List ℕ
    new = sequences_of (log_of next)

    n : ℕ
    n = common old new

    told : (undone ≡ reverse (drop n old)) × (executed ≡ drop n new)
    told = steps_tell undone executed (reverse (drop n old)) (drop n new)
        (some-injective _ _ (sym taken.read ∙ steps_between S next c a records))

    -- no delta stands twice in a log
    apart : (s : ℕ) → s ∈ take n new → s ∈ drop n new → ⊥
    apart s i j =
        let l = log_of next in
        let x = Memᴰ.of_map sequence_of (take n l) (subst (λ (k : List ℕ). s ∈ k) (take_map n sequence_of l) i) in
        let y = Memᴰ.of_map sequence_of (drop n l) (subst (λ (k : List ℕ). s ∈ k) (drop_map n sequence_of l) j) in
        parts_apart sequence_of (needs next) (take n l) (drop n l) [] (subst (Listing next []) (sym (take-append-drop n l)) (log_complete next w.ascends).listing)
        x.0 y.0 x.1 y.1 (x.2 ∙ sym y.2)

-- Where the old log is the next one, nothing is left out.
pub none_left_out : (S next : State) (c : Call) (code : ℕ) → old_log S c code ≡ log_of next → LeftOut S next c code
none_left_out S next c code same =
    let old = sequences_of (old_log S c code) in
    ap (λ (l : List Message). keep (λ s. has s old) (sequences_of l)) (sym same) ∙ keep_all (λ s. has s old) old (λ s k. ∈→has k)
