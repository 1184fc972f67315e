-- The laws of the definitions, each as one statement. Their proofs stand in the crates of laws below.
use Rattle.std.specs.Prelude.{◌≡◌, refl, ◌↔◌, ◌⊎◌, true, not, List, [], ◌++◌, map, ℕ, ◌+◌, ◌≤◌, ◌<◌, max, length, take, drop, get_or, T, ℤ, pos}
use Rattle.std.proofs.Common.{sym, ◌∙◌, ap, ap₂, subst, inl, inr, ⊎_elim, arith, ltb→lt}
use Rattle.std.proofs.Math.Option.{some}
use Rattle.std.proofs.Math.Dec.{not_T}
use Rattle.model.specs.Lists.{◌∈◌, greatest}
use Rattle.model.specs.Bytes.{join}
use Rattle.model.specs.Layout.{image_size, step_room, sequences_room, text_room}
use Rattle.model.specs.Message.{Message, sequence_of, block_of, needs_of, passes}
use Rattle.model.specs.Order.{Origin, State, holding, state_of, purged, Ascending, find, sequences_of, needs, Reaches, MeetsRing, own_block, effective_block, key_of, less, Executable, Grounded, IsLog, log_of, held_of}
use Rattle.model.specs.Setpoints.{start_values, run_log, setpoints_of}
use Rattle.model.specs.Image.{image_of, Valid, IsImage, origin_in, state_in, values_in, log_count, messages_start_in, log_in, messages_in, held_in, walk, message_offset, used_count, is_image}
use Rattle.model.specs.Steps.{Step, common, undos_of, executions_of, steps_of, records_between, records_bytes, read_records, Plays, Standing, PlaysPairs}
use Rattle.model.specs.Codes.{Conditions, lowest_code, small_steps, deliver_conditions, compose_conditions, empty_conditions, log_message_conditions, setpoint_conditions, purge_conditions, read_sequences_conditions, write_sequences_conditions}
use Rattle.model.specs.Calls.{empty, Delivered, deliver, Purged, purge, compose, log_message_code, log_message, setpoint, message_at, converted_answer, front, read_sequences, write_sequences}
use Rattle.model.specs.PlainStation.{receive}
use Rattle.model_runs.specs.Run.{delivery, Agreement, Begins, Answers}
use Rattle.model_runs.specs.RunOrder.{InOrder, OrderKept}
use Rattle.laws_order.specs.KeyOrder.{Total}
use Rattle.laws_order.specs.TestLaws.{Same}
use Rattle.laws_order.specs.CommonLaws.{common_start, common_longest}
use Rattle.laws_order.specs.StepLaws.{steps_play, steps_counted, steps_fewest}
use Rattle.laws_state.specs.SetLaws.{ascending_unique}
use Rattle.laws_state.specs.LogLaws.{key_order, keys_differ, log_held, log_is, log_only, log_of_set, log_executable, log_grounded, held_is, held_ascends, ring_held}
use Rattle.laws_state.specs.EffectiveLaws.{effective_is, effective_only}
use Rattle.laws_state.specs.FloorLaws.{needs_above, reached_above, block_least, first_needs, first_block}
use Rattle.laws_wire.specs.RecordLaws.{records_steps}
use Rattle.laws_state.specs.ImageLaws.{image_size_lem, state_back, origin_back, messages_back, log_back, held_back, image_declared, image_state, image_own, own_valid}
use Rattle.laws_state.specs.OffsetLaws.{offset_join, walk_offset, message_at_offset, message_placed, log_count_lem, log_offset_lem, message_here, log_full, offset_used}
use Rattle.laws_state.specs.ImageValueLaws.{values_back}
use Rattle.laws_state.specs.RecordRange.{records_back}
use Rattle.laws_state.specs.PairLaws.{standing_in, state_pairs_play, pairs_unique}
use Rattle.laws_state.specs.CodeLaws.{Above, Lowest, lowest_is, empty_code, deliver_code_lem, purge_code_lem, compose_code_lem, setpoint_code, deliver_refused, purge_refused, empty_refused, compose_refused, log_message_refused, setpoint_refused}
use Rattle.laws_state.specs.DeliverLaws.{code_zero, receive_accepted, take_in_purged, receive_valid, purged_accepted, purged_delivery}
use Rattle.laws_run.specs.CallRuns.{CallFacts, call_facts}
use Rattle.laws_run.specs.RunLaws.{agreement}
use Rattle.laws_run.specs.OrderRuns.{image_in_order, order_kept}
use Rattle.laws_text.specs.AnswerLaws.{read_code, read_refused, write_code, write_refused}
use Rattle.laws_text.specs.RoundTrips as trips
use Rattle.laws_compose.specs.ComposePromise.{ComposePromise}
use Rattle.laws_compose.proofs.PromiseKept.{promise_of}

-- 1. The computed log is the declared one and the only one. A received delta is in it exactly if it is executable, and so
-- exactly if all it needs above the floors, step by step back, was received and contains no ring; held are the others, by ascending
-- sequence, and so whatever meets a ring.
pub record LogLaw (S : State) : Type 0 where
  pub is_log : IsLog S (log_of S)
  pub only : (l : List Message) → IsLog S l → l ≡ log_of S
  pub executable : (m : Message) → m ∈ S.deltas → (m ∈ log_of S) ↔ Executable S m
  pub grounded : (m : Message) → m ∈ S.deltas → (m ∈ log_of S) ↔ Grounded S m
  pub held : (m : Message) → (m ∈ held_of S) ↔ ((m ∈ S.deltas) × ¬ (m ∈ log_of S))
  pub held_ascend : Ascending (held_of S)
  pub ring : (m : Message) → m ∈ S.deltas → MeetsRing S m → m ∈ held_of S

pub log_law : (S : State) → Valid S → LogLaw S
log_law S v = record {
  is_log = log_is S v.ascends;
  only = log_only S v.ascends;
  executable = log_executable S v.ascends;
  grounded = log_grounded S v.ascends;
  held = held_is S v.ascends;
  held_ascend = held_ascends S v.ascends;
  ring = ring_held S v.ascends;
}

-- It depends on the set, and on what it starts from, alone.
pub log_of_same : (S R : State) → Valid S → Valid R → S.origin ≡ R.origin → Same S.deltas R.deltas → log_of S ≡ log_of R
log_of_same S R p q e f = log_of_set S R e p.ascends q.ascends f

-- And so is the image: "Equal images are promised to stations whose floors, base values, purged block and group agree and whose remaining
-- deltas are the same."
pub image_of_same : (S R : State) → Valid S → Valid R → S.origin ≡ R.origin → Same S.deltas R.deltas → image_of S ≡ image_of R
image_of_same S R p q e f = ap₂ (λ (O : Origin) (l : List Message). image_of (holding O l)) e (ascending_unique S.deltas R.deltas p.ascends q.ascends f)

-- The floors: "A need at or below its floor counts as placed", so that no delta waits for it or reaches it, step by step back; "no
-- effective block counts below the greatest purged one".
pub record FloorLaw (S : State) : Type 0 where
  pub waits : (m : Message) (s : ℕ) → (s ∈ needs S m) ↔ ((s ∈ needs_of m) × ¬ T (purged S s))
  pub reaches : (m : Message) (s : ℕ) → Reaches S m s → ¬ T (purged S s)
  pub block : (m : Message) → m ∈ S.deltas → Executable S m → S.origin.block ≤ effective_block S m

pub floor_law : (S : State) → Valid S → FloorLaw S
floor_law S v = record { waits = needs_above S; reaches = λ m s r. reached_above S r; block = block_least S v }

-- Before any purge a delta waits for all that it needs, and its own block is its message's.
pub first_law : (l : List Message) (m : Message) → (needs (state_of l) m ≡ needs_of m) × (own_block (state_of l) m ≡ block_of m)
first_law l m = (first_needs l m, first_block l m)

-- 2. The key is a strict total order on every set, and the effective block is the one solution of the paper's equation.
pub record KeyLaw (S : State) : Type 0 where
  pub order : Total less
  pub differ : (a b : Message) → a ∈ S.deltas → b ∈ S.deltas → key_of S a ≡ key_of S b → a ≡ b
  pub effective : (m : Message) → m ∈ S.deltas → Executable S m
      → effective_block S m ≡ max (own_block S m) (greatest (λ s. effective_block S (find S.deltas s)) (needs S m))
  pub only_effective : (f : Message → ℕ)
      → ((m : Message) → m ∈ S.deltas → Executable S m → f m ≡ max (own_block S m) (greatest (λ s. f (find S.deltas s)) (needs S m)))
      → (m : Message) → m ∈ S.deltas → Executable S m → f m ≡ effective_block S m

pub key_law : (S : State) → Valid S → KeyLaw S
key_law S v = record { order = key_order; differ = keys_differ S v.ascends; effective = effective_is S v.ascends v.fits; only_effective = effective_only S v.ascends v.fits }

-- 3. The common start is one and none is longer; the steps lead from the old log to the new one, are counted as the paper says, and no rival has fewer.
pub record StepLaw (old new : List ℕ) : Type 0 where
  pub start : take (common old new) old ≡ take (common old new) new
  pub longest : (n : ℕ) → n ≤ length old → n ≤ length new → take n old ≡ take n new → n ≤ common old new
  pub plays : Plays old (steps_of old new) new
  pub counted : length (steps_of old new) ≡ undos_of old new + executions_of old new
  pub fewest : (rival : List Step) → Plays old rival new → length (steps_of old new) ≤ length rival

pub step_law : (old new : List ℕ) → StepLaw old new
step_law old new = record { start = common_start old new; longest = common_longest old new; plays = steps_play old new; counted = steps_counted old new; fewest = steps_fewest old new }

-- The records of these steps between states of one origin, with their pairs: they have these steps, are read back from their bytes, and can be played from the
-- setpoints of the old log, where its executions stand on any of the past, to those of the new one, where its own do; to no other values.
pub record PairLaw (S next : State) : Type 0 where
  pub steps : map (λ r. r.step) (records_between S next) ≡ steps_of (sequences_of (log_of S)) (sequences_of (log_of next))
  pub read : (rest : List ℕ) → read_records (length (records_between S next)) (records_bytes (records_between S next) ++ rest) ≡ some (records_between S next)
  pub plays : (past : List Standing) → PlaysPairs (standing_in past S) (setpoints_of S) (records_between S next) (standing_in past next) (setpoints_of next)
  pub only : (before after : List Standing) (values : List ℤ) → PlaysPairs before (setpoints_of S) (records_between S next) after values → values ≡ setpoints_of next

pub pair_law : (S next : State) → Valid S → Valid next → S.origin ≡ next.origin → ((m : Message) → m ∈ S.deltas → m ∈ next.deltas) → PairLaw S next
pair_law S next v w e all = record {
  steps = records_steps (start_values S) (log_of S) (log_of next);
  read = records_back S next v w;
  plays = plays;
  only = λ before after values p. pairs_unique (records_between S next) before (standing_in [] S) after (standing_in [] next) (setpoints_of S) values (setpoints_of next) p (plays []);
}
  where
    plays : (past : List Standing) → PlaysPairs (standing_in past S) (setpoints_of S) (records_between S next) (standing_in past next) (setpoints_of next)
    plays past = state_pairs_play past S next e v.ascends w.ascends all

-- 4. The image of a valid state has 16,384 bytes and reads back to that state, its origin, its log, its held deltas and its setpoints.
pub record ImageLaw (S : State) : Type 0 where
  pub size : length (image_of S) ≡ image_size
  pub state : state_in (image_of S) ≡ S
  pub origin : origin_in (image_of S) ≡ S.origin
  pub log : log_in (image_of S) ≡ log_of S
  pub held : held_in (image_of S) ≡ held_of S
  pub setpoints : values_in (image_of S) ≡ setpoints_of S
  -- "base values, from which the rest is run"
  pub run : values_in (image_of S) ≡ run_log (log_in (image_of S)) (origin_in (image_of S)).base

run_is : (S : State) → setpoints_of S ≡ run_log (log_of S) S.origin.base
unfolding setpoints_of start_values
run_is S = refl

pub image_law : (S : State) → Valid S → ImageLaw S
image_law S v = record {
  size = image_size_lem S v;
  state = state_back S v;
  origin = origin_back S v;
  log = log_back S v;
  held = held_back S v;
  setpoints = values_back S v;
  run = values_back S v ∙ run_is S ∙ sym (ap₂ run_log (log_back S v) (ap (λ (O : Origin). O.base) (origin_back S v)));
}

-- Whatever image a station has, with floors or without: its messages are the state's deltas, and it is in order.
own_messages : (b : List ℕ) → T (is_image b) → Same (state_in b).deltas (messages_in b)
own_messages b i =
    let S : State = state_in b in
    subst (Same S.deltas) (sym (ap messages_in (image_own b i) ∙ messages_back S (own_valid b i)))
    (λ m. let h = log_held S (own_valid b i).ascends m in (h.1, h.0))

pub image_order : (b : List ℕ) → T (is_image b) → InOrder (messages_in b) (state_in b) b
image_order b i =
    subst (InOrder (messages_in b) (state_in b)) (sym (image_own b i)) (image_in_order (state_in b) (own_valid b i) (messages_in b) (own_messages b i))

-- Two images with one origin and the same messages are one.
pub image_of_one_origin : (b c : List ℕ) → T (is_image b) → T (is_image c) → origin_in b ≡ origin_in c → Same (messages_in b) (messages_in c) → b ≡ c
image_of_one_origin b c i j e f =
    image_own b i
    ∙ image_of_same (state_in b) (state_in c) (own_valid b i) (own_valid c j) e (λ m. (
      λ k. (own_messages c j m).1 ((f m).0 ((own_messages b i m).0 k)),
      λ k. (own_messages b i m).1 ((f m).1 ((own_messages c j m).0 k)),
    ))
    ∙ sym (image_own c j)

-- A buffer passes code 2 by computing exactly if it is declared an image, and it is the image of one state.
pub image_test : (b : List ℕ) → T (is_image b) ↔ IsImage b
image_test = image_declared

pub image_of_one : (b : List ℕ) (i : IsImage b) → i.state ≡ state_in b
image_of_one = image_state

-- 5. Deliver on the image of a valid state is the plain station's answer, whose state stays valid.
pub deliver_law : (S : State) → Valid S → (m : Message) (steps : List ℕ)
    → CallFacts S (receive S m (length steps)) (delivery m steps) (deliver (image_of S) m steps)
deliver_law S v m steps = call_facts S v (delivery m steps) (deliver (image_of S) m steps) refl

pub station_law : (S : State) → Valid S → (m : Message) (room : ℕ) → Valid (receive S m room)
station_law = receive_valid

-- "A delivery at or below a floor answers 0 with no step, and its message joins no set": every byte stays, and so does the state.
pub record PurgedLaw (S : State) (m : Message) (steps : List ℕ) : Type 0 where
  pub answer : deliver (image_of S) m steps ≡ record { code = 0; undos = 0; executions = 0; image = image_of S; steps = steps }
  pub state : receive S m (length steps) ≡ S

pub purged_law : (S : State) → Valid S → (m : Message) (steps : List ℕ) → step_room ≤ length steps → T (passes m) → T (purged S (sequence_of m)) → PurgedLaw S m steps
purged_law S v m steps room pass low = record {
  answer = purged_delivery S v m steps large pass low;
  state = receive_accepted S m (length steps) ((code_zero S m (length steps)).1 (purged_accepted S m (length steps) large pass low)) ∙ take_in_purged m S low;
}
  where
    large : T (not (small_steps (length steps)))
    large = not_T (small_steps (length steps)) (λ t. let few : length steps < step_room = ltb→lt (length steps) step_room t in let z : ⊥ = omega arith in z)

-- 6. What compose hands out: what the message carries, what it leaves in the buffer, and how it is delivered.
pub compose_law : (b line commands : List ℕ) (flag priority : ℕ) (buffer : List ℕ) → (compose b line commands flag priority buffer).code ≡ 0
    → ComposePromise (λ i m steps d. d ≡ deliver i m steps) b line commands flag priority buffer (compose b line commands flag priority buffer)
compose_law b line commands flag priority buffer = promise_of (λ i m steps d. d ≡ deliver i m steps) (λ i m steps d h. h) b line commands flag priority buffer _ refl

-- 7. Demand 1: a call's code is the lowest number of its own list whose condition holds, and 0 where none does; `nothing` is what
-- holds beside a refusal, that every buffer is as it was and all else 0.
pub record CodeLaw (conditions : Conditions) (code : ℕ) (nothing : Type 0) : Type 0 where
  pub lowest : Lowest conditions code
  pub accepted : ((n : ℕ) → ¬ ((n, true) ∈ conditions)) → code ≡ 0
  pub refused : ¬ (code ≡ 0) → nothing

code_law : (conditions : Conditions) → Above 0 conditions → {code : ℕ} → code ≡ lowest_code conditions → {nothing : Type 0} → (¬ (code ≡ 0) → nothing) → CodeLaw conditions code nothing
code_law conditions ascends {code} is f =
    let lowest : Lowest conditions code = subst (Lowest conditions) (sym is) (lowest_is 0 conditions ascends) in
    record { lowest = lowest; accepted = λ none. ⊎_elim (λ e. e) (λ k. absurd (none code k)) lowest.holds; refused = f }

pub empty_codes : (b : List ℕ) → CodeLaw (empty_conditions b) (empty b).code ((empty b).image ≡ b)
empty_codes b = code_law (empty_conditions b) (omega arith) (empty_code b) (empty_refused b)

abbrev pub LeftAlone : List ℕ → List ℕ → Delivered → Type 0
LeftAlone b steps a = (a.undos ≡ 0) × (a.executions ≡ 0) × (a.image ≡ b) × (a.steps ≡ steps)

pub deliver_codes : (b : List ℕ) (m : Message) (steps : List ℕ) → CodeLaw (deliver_conditions b m (length steps)) (deliver b m steps).code (LeftAlone b steps (deliver b m steps))
deliver_codes b m steps = code_law (deliver_conditions b m (length steps)) (omega arith) (deliver_code_lem b m steps)
    (λ h. subst (LeftAlone b steps) (sym (deliver_refused b m steps h)) (refl, refl, refl, refl))

pub compose_codes : (b line commands : List ℕ) (flag priority : ℕ) (buffer : List ℕ) → let a = compose b line commands flag priority buffer in
    CodeLaw (compose_conditions b line commands flag priority (length buffer)) a.code ((a.size ≡ 0) × (a.message ≡ buffer))
compose_codes b line commands flag priority buffer = code_law (compose_conditions b line commands flag priority (length buffer)) (omega arith)
    (compose_code_lem b line commands flag priority buffer) (compose_refused b line commands flag priority buffer)

pub log_message_codes : (b : List ℕ) (place : ℕ) → CodeLaw (log_message_conditions b place) (log_message_code b place) (log_message b place ≡ [])
unfolding log_message_code
log_message_codes b place = code_law (log_message_conditions b place) (omega arith) refl (log_message_refused b place)

pub setpoint_codes : (b : List ℕ) (tag : ℕ) → CodeLaw (setpoint_conditions b tag) (setpoint b tag).code ((setpoint b tag).value ≡ pos 0)
setpoint_codes b tag = code_law (setpoint_conditions b tag) (omega arith) (setpoint_code b tag) (setpoint_refused b tag)

pub purge_codes : (b : List ℕ) (K : ℕ) → CodeLaw (purge_conditions b K) (purge b K).code ((purge b K).image ≡ b)
purge_codes b K = code_law (purge_conditions b K) (omega arith) (purge_code_lem b K) (λ h. ap (λ (a : Purged). a.image) (purge_refused b K h))

pub read_sequences_codes : (t buffer : List ℕ) → let a = read_sequences t buffer in
    CodeLaw (read_sequences_conditions t (length buffer)) a.code ((a.size ≡ 0) × (a.buffer ≡ buffer))
read_sequences_codes t buffer = code_law (read_sequences_conditions t (length buffer)) (omega arith) (read_code t buffer) (read_refused t buffer)

pub write_sequences_codes : (b buffer : List ℕ) → let a = write_sequences b buffer in
    CodeLaw (write_sequences_conditions b (length buffer)) a.code ((a.size ≡ 0) × (a.buffer ≡ buffer))
write_sequences_codes b buffer = code_law (write_sequences_conditions b (length buffer)) (omega arith) (write_code b buffer) (write_refused b buffer)

-- 8. Reading a written list yields the sequences, and a text that is read is the one that would be written.
pub record TextLaw : Type 0 where
  pub written_read : (b buffer : List ℕ) → (write_sequences b buffer).code ≡ 0 → (out : List ℕ) → sequences_room ≤ length out
      → read_sequences (front (write_sequences b buffer)) out ≡ converted_answer 0 b out
  pub read_written : (t buffer : List ℕ) → (read_sequences t buffer).code ≡ 0 → (out : List ℕ) → text_room ≤ length out
      → write_sequences (front (read_sequences t buffer)) out ≡ converted_answer 0 t out

pub text_law : TextLaw
text_law = record { written_read = trips.written_read; read_written = trips.read_written }

-- 9. At every place of a walk over a buffer's messages the value that it carries is the offset of the first message plus the lengths of
-- all messages before the place; up to the end of the log these are messages of the log alone. In an image the message of the place
-- stands there, of the log it is the one that the reader finds there, at other offsets it finds none, and past the last message are the
-- bytes used.
pub record OffsetLaw (b : List ℕ) : Type 0 where
  pub carried : (k : ℕ) → k ≤ length (messages_in b) → get_or (walk (messages_start_in b) (messages_in b)) k 0 ≡ message_offset b k
  pub of_log : (k : ℕ) → k ≤ log_count b → message_offset b k ≡ messages_start_in b + length (join (take k (log_in b)))
  pub here : T (is_image b) → (k : ℕ) → k < length (messages_in b) → let m = get_or (messages_in b) k [] in take (length m) (drop (message_offset b k) b) ≡ m
  pub found : T (is_image b) → (k : ℕ) → k < log_count b → message_at (messages_start_in b) (log_in b) (message_offset b k) ≡ get_or (log_in b) k []
  pub only : (offset : ℕ) → (message_at (messages_start_in b) (log_in b) offset ≡ []) ⊎ ((k : ℕ) × (k < log_count b) × (offset ≡ message_offset b k))
  pub used : T (is_image b) → message_offset b (length (messages_in b)) ≡ used_count b

pub offset_law : (b : List ℕ) → OffsetLaw b
offset_law b = record {
  carried = walk_offset (messages_start_in b) (messages_in b);
  of_log = λ k h. sym (log_offset_lem b k h) ∙ offset_join (messages_start_in b) (log_in b) k;
  here = message_here b;
  found = λ image k h. ap (message_at (messages_start_in b) (log_in b)) (sym (log_offset_lem b k (omega arith)))
      ∙ message_at_offset (messages_start_in b) (log_in b) (log_full b image) k;
  only = λ offset. ⊎_elim inl (λ p.
      let inside : p.place < log_count b = omega (arith, p.inside, log_count_lem b) in
      inr (p.place, inside, p.here ∙ log_offset_lem b p.place (omega arith))) (message_placed (messages_start_in b) (log_in b) offset);
  used = offset_used b;
}

-- Demand 2 after every call, and demand 3, of the definitions' own calls.
pub order_law : OrderKept Begins Answers
order_law = order_kept

pub agreement_law : Agreement Begins Answers
agreement_law = agreement
