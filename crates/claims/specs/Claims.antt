-- What is promised of the calls, each promise at its full type under the words of the three demands and of documents 01 and 02: of those for C as the host sees
-- them, over what they were proved to leave behind; reader and texts of the library's own calls; images, floors and offsets of the definitions.
-- A buffer is a list of bytes; `×` is and, `⊎` or, `¬` not, `↔` exactly if, `∈` that a list has it.
use Rattle.std.specs.Prelude.{◌≡◌, ◌↔◌, ◌⊎◌, Bool, true, not, ◌&&◌, List, [], ◌∷◌, ◌++◌, reverse, ℕ, suc, ◌+◌, ◌-◌, ◌≤◌, ◌<◌, min, max, length, take, drop, get_or, replicate, T, ℤ, pos}
use Rattle.std.proofs.Common.{sym, ◌∙◌, ap, subst, inr, arith}
use Rattle.std.proofs.Math.Option.{some}
use Rattle.model.specs.Lists.{◌∈◌, has, keep, greatest, sum, ascending}
use Rattle.model.specs.Bytes.{number, field}
use Rattle.model.specs.Layout.{capacity, step_room, priority_flag_at, sequences_room, text_room}
use Rattle.model.specs.Message.{Message, dependency_count, commands_start, sequence_of, group_of, block_of, priority_of, dependencies_of, needs_of, line_of, number_of, predecessor_of, numbered, passes}
use Rattle.model.specs.Order.{State, Ascending, purged, needs, sequences_of, effective_block, key_of, MeetsRing, Executable, Grounded, IsLog, log_of}
use Rattle.model.specs.Setpoints.{start_values, run_log}
use Rattle.model.specs.Image.{Valid, image_of, origin_in, values_in, log_in, held_in, state_in, is_image, messages_in, messages_start_in, offset_of, walk, message_offset, used_count}
use Rattle.model.specs.Steps.{Step, undos_of, executions_of, records_of, Plays, Standing, execute, read_steps}
use Rattle.model.specs.Compose.{number_on, last_sequence, new_number, new_block, new_group}
use Rattle.model.specs.Codes.{Conditions, lowest_code, empty_conditions, deliver_conditions, purge_conditions, compose_conditions, read_conditions, log_message_conditions, setpoint_conditions, read_sequences_conditions, write_sequences_conditions}
use Rattle.model.specs.Calls.{Emptied, empty, Delivered, deliver, Purged, purge, Composed, compose, log_message_code, log_message, Setpoint, setpoint, start, Converted, converted_answer, front, read_sequences, write_sequences}
use Rattle.model_runs.specs.SameOrder.{Before}
use Rattle.model_runs.specs.Run.{Given, Event, image_after, Run, state_after, log_after, played_from, old_log, accepts?, code_for, accepted_in, remaining_in, deliveries, purged_after, StepsTaken, Played, History, records_read, PairsPlayed}
use Rattle.model_runs.specs.RunOrder.{received_in}
use Rattle.laws_run.specs.CalledRuns.{Began, Answered}
use Rattle.laws_run.specs.StateRuns.{state_valid, run_before}
use Rattle.laws_run.specs.LateRuns.{later_images}
use Rattle.laws_compose.specs.ComposeLaws.{message_by}
use Rattle.laws_compose.specs.ComposedFields.{NeededByNone}
use Rattle.laws_order.specs.TestLaws.{and_r}
use Rattle.laws_state.specs.ImageLaws.{image_own, own_valid}
use Rattle.laws_purge.specs.PurgedFloors.{own_numbered}
use Rattle.theorems.specs.LateTheorems.{LogKept, deliver_late}
use Rattle.theorems.specs.PurgeTheorems.{purge_dropped, purge_of_none}
use Rattle.theorems.specs.Theorems.{CodeLaw, floor_law, purged_law, image_law, image_order, image_of_one_origin, offset_law}
use Rattle.theorems_refusals.specs.Refusals.{empty_codes, deliver_codes, purge_codes, compose_codes, log_message_codes, setpoint_codes, read_sequences_codes, write_sequences_codes}
use Rattle.theorems_texts.specs.Texts.{ReadFrom, WrittenFrom, written_read, read_written}
use Rattle.read_log.specs.declared.reader.LogReader.{LogReader}
use Rattle.read_log.specs.Reader.{reader_of, Starts}
use Rattle.read_log.specs.Readings.{NextCalls}
use Rattle.read_log.proofs.Readings.{calls_read}
use Rattle.theorems_host.specs.HostRuns.{HostEmptied, HostDelivered, HostPurged}
use Rattle.theorems_host.proofs.HostRuns.{host_emptied_as, host_delivered_as, host_purged_as, host_agreement, host_order_kept, host_equal_accepted}
use Rattle.theorems_host.specs.HostComposes.{HostComposed}
use Rattle.theorems_host.proofs.HostComposes.{host_composed_as, host_composed_keeps}
use Rattle.theorems_host.specs.HostReads.{HostLogMessage, host_log_message_as, HostSetpoint, host_setpoint_as, HostRead, host_read_as, HostWritten, host_written_as}

-- ---- DEMAND 1: "No call may leave its result open": each answers what its definition does, code, counts, values and every byte. "The lowest number that
-- applies to the call is answered, and never when its condition fails. A refusal writes nothing, and its counts and length are 0."
abbrev pub Refuses : Conditions → ℕ → Type 0 → Type 0
Refuses conditions code nothing = ((code ≡ 0) ⊎ ((code, true) ∈ conditions)) × ((n : ℕ) → (n, true) ∈ conditions → (0 < code) × (code ≤ n)) × (¬ (code ≡ 0) → nothing)

refuses : {conditions : Conditions} {code : ℕ} {nothing : Type 0} → CodeLaw conditions code nothing → Refuses conditions code nothing
refuses l = (l.lowest.holds, l.lowest.least, l.refused)

pub empty_answers : (buffer : List ℕ) (a : Emptied) → HostEmptied buffer a → (a ≡ empty buffer) × Refuses (empty_conditions buffer) a.code (a.image ≡ buffer)
empty_answers buffer a c = (host_emptied_as buffer a c, refuses (empty_codes buffer a c))

pub deliver_answers : (b : List ℕ) (m : Message) (steps : List ℕ) (a : Delivered) → HostDelivered b m steps a → (a ≡ deliver b m steps)
    × Refuses (deliver_conditions b m (length steps)) a.code ((a.undos ≡ 0) × (a.executions ≡ 0) × (a.image ≡ b) × (a.steps ≡ steps))
deliver_answers b m steps a c = (host_delivered_as b m steps a c, refuses (deliver_codes b m steps a c))

pub purge_answers : (b : List ℕ) (K : ℕ) (a : Purged) → HostPurged b K a → (a ≡ purge b K) × Refuses (purge_conditions b K) a.code (a.image ≡ b)
purge_answers b K a c = (host_purged_as b K a c, refuses (purge_codes b K a c))

pub compose_answers : (b line commands : List ℕ) (flag priority : ℕ) (buffer : List ℕ) (a : Composed) → HostComposed b line commands flag priority buffer a
    → (a ≡ compose b line commands flag priority buffer) × Refuses (compose_conditions b line commands flag priority (length buffer)) a.code ((a.size ≡ 0) × (a.message ≡ buffer))
compose_answers b line commands flag priority buffer a c = (host_composed_as b line commands flag priority buffer a c, refuses (compose_codes b line commands flag priority buffer a c))

pub log_message_answers : (b : List ℕ) (place : ℕ) (part : List ℕ) (code : ℕ) → HostLogMessage b place part code
    → ((part ≡ log_message b place) × (code ≡ log_message_code b place)) × Refuses (log_message_conditions b place) code (part ≡ [])
log_message_answers b place part code c = (host_log_message_as b place part code c, refuses (log_message_codes b place part code c))

pub setpoint_answers : (b : List ℕ) (tag : ℕ) (a : Setpoint) → HostSetpoint b tag a → (a ≡ setpoint b tag) × Refuses (setpoint_conditions b tag) a.code (a.value ≡ pos 0)
setpoint_answers b tag a c = (host_setpoint_as b tag a c, refuses (setpoint_codes b tag a c))

pub read_answers : (t buffer : List ℕ) (a : Converted) → HostRead t buffer a
    → (a ≡ read_sequences t buffer) × Refuses (read_sequences_conditions t (length buffer)) a.code ((a.size ≡ 0) × (a.buffer ≡ buffer))
read_answers t buffer a c = (host_read_as t buffer a c, refuses (read_sequences_codes t buffer a c))

pub write_answers : (b buffer : List ℕ) (a : Converted) → HostWritten b buffer a
    → (a ≡ write_sequences b buffer) × Refuses (write_sequences_conditions b (length buffer)) a.code ((a.size ≡ 0) × (a.buffer ≡ buffer))
write_answers b buffer a c = (host_written_as b buffer a c, refuses (write_sequences_codes b buffer a c))

-- ---- DEMANDS 3 AND 2: `bivamolune_empty` was lent what is given and wrote the image b, and each `bivamolune_deliver` and `bivamolune_purge` got it as the last call left it. The latest call stands first.
module _ (given : Given) (b : List ℕ) (begun : Began HostEmptied given b) where
  module _ (call : Event) (earlier : List Event) (run : Run (Answered HostDelivered HostPurged) b (call ∷ earlier)) where
    -- "Deliver answers 0 exactly where the plain station accepts, and otherwise the lowest number that applies."
    pub codes : ((call.answer.code ≡ 0) ↔ T (accepts? (state_after given earlier) call.call)) × (call.answer.code ≡ code_for (image_after b earlier) call.call)
    codes = let o = host_agreement.call given b begun call earlier run in (o.accepted, o.code)

    -- "The number of a delivery's undos is the length of its old log less that of the longest common start ..". "Its rivals .., both kinds counted together."
    pub counts : let old = sequences_of (old_log (state_after given earlier) call.call call.answer.code) in let new = log_after given (call ∷ earlier) in (call.answer.undos ≡ undos_of old new) × (call.answer.executions ≡ executions_of old new)
        × ((rival : List Step) → Plays old rival new → call.answer.undos + call.answer.executions ≤ length rival)
    counts = let o = host_agreement.call given b begun call earlier run in (o.undos, o.executions, o.fewest)

    -- "An execution lists the value after each command; an undo lists the value restored by each command, last command first": from the start values after the call, which a delivery leaves as they were.
    pub records : let next = state_after given (call ∷ earlier) in
        records_read call.answer ≡ some (records_of (start_values next) (old_log (state_after given earlier) call.call call.answer.code) (log_of next))
    records = (host_agreement.call given b begun call earlier run).records

    -- "A late arrival only squeezes in": "two deltas that were both in the log before still stand in the same order to each other". (Of refused calls too; of a purge, of two that it leaves.)
    pub same_order : let old = sequences_of (played_from call.call call.answer.code (log_in (image_after b earlier))) in let new = sequences_of (log_in (image_after b (call ∷ earlier))) in
        (s t : ℕ) → s ∈ old → t ∈ old → Before s t new ↔ Before s t old
    same_order = (host_agreement.call given b begun call earlier run).order

    -- And of its steps alone: what it undoes it executes again, in the order of the log, which is the reverse of the order of its undos.
    pub undone_again : (undone executed : List ℕ) → StepsTaken call undone executed → keep (λ s. has s undone) executed ≡ reverse undone
    undone_again = (host_agreement.call given b begun call earlier run).again

  module _ (calls : List Event) (run : Run (Answered HostDelivered HostPurged) b calls) where
    -- "Its log and image are those of the set"; "the played log, the image's log and the plain station's log are the same ..", and the pairs lead to "the image's values".
    pub played : (image_after b calls ≡ image_of (state_after given calls))
        × ((log : List ℕ) → Played calls log ↔ (log ≡ log_after given calls)) × (sequences_of (log_in (image_after b calls)) ≡ log_after given calls)
        × ((values : List ℤ) → ((standing : List Standing) × PairsPlayed b calls standing values) ↔ (values ≡ values_in (image_after b calls)))
    played = let o = host_agreement.list given b begun calls run in (o.image, o.played, o.image_log, o.setpoints)

    -- "A floor is a line and its highest purged number"; "Purged deltas keep their order ahead of all later ones": played on a list that no purge shortens, the steps lead to what was purged, and then the log.
    pub purged_ahead : ((s : ℕ) → (s ∈ purged_after given calls) ↔ T (numbered s && purged (state_after given calls) s))
        × ((all : List ℕ) → History calls all ↔ (all ≡ purged_after given calls ++ log_after given calls))
    purged_ahead = let o = host_agreement.list given b begun calls run in (o.purged, o.history)

    -- "A delivery at or below a floor answers 0 with no step, and its message joins no set": whatever was purged, and whatever came since.
    pub purged_later : (m : Message) (steps : List ℕ) → step_room ≤ length steps → T (passes m) → sequence_of m ∈ purged_after given calls
        → (d : Delivered) → HostDelivered (image_after b calls) m steps d → d ≡ record { code = 0; undos = 0; executions = 0; image = image_after b calls; steps = steps }
    purged_later m steps room pass gone d h =
        let o = host_agreement.list given b begun calls run in
        let S : State = state_after given calls in
        let answer : List ℕ → Delivered = λ image. record { code = 0; undos = 0; executions = 0; image = image; steps = steps } in
        let low : T (purged S (sequence_of m)) = and_r (numbered (sequence_of m)) (purged S (sequence_of m)) ((o.purged (sequence_of m)).0 gone) in
        host_delivered_as (image_after b calls) m steps d h ∙ ap (λ (x : List ℕ). deliver x m steps) o.image
        ∙ (purged_law S (state_valid given calls) m steps room pass low).answer ∙ ap answer (sym o.image)

    -- "the first of all such listings"; received: accepted, and not purged; "executed exactly when all it needs, step by step back, was received and contains no ring" (demand 2)
    pub executed : let S = state_after given calls in let log = log_in (image_after b calls) in IsLog S log × ((m : Message) → (m ∈ S.deltas) ↔ (m ∈ received_in given calls))
        × ((m : Message) → m ∈ received_in given calls → ((m ∈ log) ↔ Executable S m) × ((m ∈ log) ↔ Grounded S m))
    executed = let o = host_order_kept.in_order given b begun calls run in (o.first, o.deltas, λ m k. (o.executed m k, o.grounded m k))

    -- "All others are held", "by ascending sequence"
    pub held : ((m : Message) → (m ∈ held_in (image_after b calls)) ↔ ((m ∈ received_in given calls) × ¬ Executable (state_after given calls) m)) × Ascending (held_in (image_after b calls))
    held = let o = host_order_kept.in_order given b begun calls run in (o.held, o.held_ascend)

  -- After whatever later calls, purges among them: the log before them, without what is purged then, is the log after them with what was not in it before left out; what stands in both has the same
  -- effective block and key.
  pub log_kept : (later calls : List Event) → Run (Answered HostDelivered HostPurged) b (later ++ calls) → let before = image_after b calls in let after = image_after b (later ++ calls) in
      (keep (λ m. has (sequence_of m) (sequences_of (log_in before))) (log_in after) ≡ keep (λ m. not (purged (state_in after) (sequence_of m))) (log_in before))
      × ((m : Message) → m ∈ log_in before → T (not (purged (state_in after) (sequence_of m)))
      → (effective_block (state_in after) m ≡ effective_block (state_in before) m) × (key_of (state_in after) m ≡ key_of (state_in before) m))
  log_kept later calls run =
      let o = host_agreement.list given b begun calls (run_before (Answered HostDelivered HostPurged) b later calls run) in
      let n = host_agreement.list given b begun (later ++ calls) run in
      let l = later_images given later calls (image_after b calls) (image_after b (later ++ calls)) o.image n.image in
      (l.log, l.keys)

  -- "a ring of deltas is held for good"
  pub ring_held : (later calls : List Event) → Run (Answered HostDelivered HostPurged) b (later ++ calls) → (m : Message) → m ∈ received_in given calls → MeetsRing (state_after given calls) m → m ∈ held_in (image_after b (later ++ calls))
  ring_held = host_order_kept.ring_held given b begun

-- "Equal images are promised to stations whose floors, base values, purged block and group agree and whose remaining deltas are the same."
pub equal_images : (given other : Given) (b c : List ℕ) → Began HostEmptied given b → Began HostEmptied other c → (calls others : List Event) → Run (Answered HostDelivered HostPurged) b calls → Run (Answered HostDelivered HostPurged) c others
    → let O = (state_after given calls).origin in let N = (state_after other others).origin in O.floors ≡ N.floors → O.base ≡ N.base → O.block ≡ N.block → O.group ≡ N.group
    → ((m : Message) → (m ∈ remaining_in given calls) ↔ (m ∈ remaining_in other others)) → image_after b calls ≡ image_after c others
equal_images given other b c p q calls others run run' floors base block group same =
    host_agreement.equal given other b c p q calls others run run' (record { floors = floors; base = base; block = block; group = group; remaining = same })

-- "So a set of deltas has one image": of lists without purges, two stations that accepted the same messages have equal images.
pub equal_accepted : (given other : Given) (b c : List ℕ) → Began HostEmptied given b → Began HostEmptied other c → (calls others : List Event) → T (deliveries calls) → T (deliveries others)
    → Run (Answered HostDelivered HostPurged) b calls → Run (Answered HostDelivered HostPurged) c others → ((m : Message) → (m ∈ accepted_in calls) ↔ (m ∈ accepted_in others)) → image_after b calls ≡ image_after c others
equal_accepted given other b c p q calls others alone alone' run run' same = host_equal_accepted given other b c p q calls others alone alone' run run' (record { accepted = same })

-- ---- LATE ARRIVALS, on any image, as the host sees them: "after any accepted delivery, two deltas that were both in the log before still stand in the same order to each other"; and the log before is the
-- one after, less what was not in it before. (A refused delivery leaves the image as it was.)
pub late_delivery : (b : List ℕ) → T (is_image b) → (m : Message) (steps : List ℕ) (a : Delivered) → HostDelivered b m steps a → let old = log_in b in let new = log_in a.image in
    ((s t : ℕ) → s ∈ sequences_of old → t ∈ sequences_of old → Before s t (sequences_of new) ↔ Before s t (sequences_of old)) × (keep (λ x. has (sequence_of x) (sequences_of old)) new ≡ old)
late_delivery b i m steps a c = subst (λ (x : Delivered). LogKept (log_in b) (log_in x.image)) (sym (host_delivered_as b m steps a c)) (deliver_late b i m steps)

-- ---- FLOORS, as the host sees them: "A delivery at or below a floor answers 0 with no step, and its message joins no set; 7 and 8 are not looked for there." Every byte stays.
pub floor_delivered : (b : List ℕ) → T (is_image b) → (m : Message) (steps : List ℕ) → step_room ≤ length steps → T (passes m) → T (purged (state_in b) (sequence_of m))
    → (a : Delivered) → HostDelivered b m steps a → a ≡ record { code = 0; undos = 0; executions = 0; image = b; steps = steps }
floor_delivered b i m steps room pass low a h =
    let answer : List ℕ → Delivered = λ image. record { code = 0; undos = 0; executions = 0; image = image; steps = steps } in
    host_delivered_as b m steps a h ∙ ap (λ (x : List ℕ). deliver x m steps) (image_own b i)
    ∙ (purged_law (state_in b) (own_valid b i) m steps room pass low).answer ∙ ap answer (sym (image_own b i))

-- Equal images once more, of any two, whoever wrote them.
pub equal_stations : (b c : List ℕ) → T (is_image b) → T (is_image c) → origin_in b ≡ origin_in c → ((m : Message) → (m ∈ messages_in b) ↔ (m ∈ messages_in c)) → b ≡ c
equal_stations = image_of_one_origin

-- Every image, with floors or without: its log is the first listing, of what is executable above the floors; the others are held; the log is run from "the base values, from which the rest is run".
pub image_ordered : (b : List ℕ) → T (is_image b) → let S = state_in b in let log = log_in b in IsLog S log
    × ((m : Message) → m ∈ messages_in b → ((m ∈ log) ↔ Executable S m) × ((m ∈ log) ↔ Grounded S m)) × ((m : Message) → (m ∈ held_in b) ↔ ((m ∈ messages_in b) × ¬ Executable S m)) × (values_in b ≡ run_log log (origin_in b).base)
image_ordered b i = let o = image_order b i in (
  o.first,
  (λ m k. (o.executed m k, o.grounded m k)),
  o.held,
  subst (λ (x : List ℕ). values_in x ≡ run_log (log_in x) (origin_in x).base) (sym (image_own b i)) (image_law (state_in b) (own_valid b i)).run,
)

-- And of the definitions: "A need at or below its floor counts as placed, and no effective block counts below the greatest purged one."
pub floors : (S : State) → Valid S → ((m : Message) (s : ℕ) → (s ∈ needs S m) ↔ ((s ∈ needs_of m) × ¬ T (purged S s))) × ((m : Message) → m ∈ S.deltas → Executable S m → S.origin.block ≤ effective_block S m)
floors S v = ((floor_law S v).waits, (floor_law S v).block)

-- ---- PURGE, as the host sees it: `bivamolune_purge` answered 0. The rest of the log stands as it stood, with its effective blocks and keys; held ones and setpoints stay; "the setpoints after them
-- become the base values"; the greatest purged block and group count what was dropped; K messages are gone; what is at or below a floor is what was, and what was dropped.
module _ (b : List ℕ) (K : ℕ) (a : Purged) (call : HostPurged b K a) (answered : a.code ≡ 0) where
  pub purge_drops : T (is_image a.image) × (log_in a.image ≡ drop K (log_in b)) × (held_in a.image ≡ held_in b) × (values_in a.image ≡ values_in b)
      × ((origin_in a.image).base ≡ run_log (take K (log_in b)) (origin_in b).base)
      × ((origin_in a.image).block ≡ max (origin_in b).block (greatest (effective_block (state_in b)) (take K (log_in b))))
      × ((origin_in a.image).group ≡ max (origin_in b).group (greatest group_of (take K (log_in b)))) × (length (messages_in a.image) + K ≡ length (messages_in b))
  purge_drops = let d = purge_dropped b K a (host_purged_as b K a call) answered in (d.image, d.log, d.held, d.setpoints, d.base, d.block, d.group, d.freed)

  pub purge_keeps : let S = state_in b in let R = state_in a.image in ((m : Message) → m ∈ log_in a.image → (effective_block R m ≡ effective_block S m) × (key_of R m ≡ key_of S m))
      × ((s : ℕ) → T (numbered s) → T (purged R s) ↔ (T (purged S s) ⊎ (s ∈ sequences_of (take K (log_in b)))))
  purge_keeps = let d = purge_dropped b K a (host_purged_as b K a call) answered in (d.kept.keys, d.kept.floors)

  -- "A delivery at or below a floor answers 0 with no step": a purged delta that comes again leaves every byte (after later calls too: `purged_later`).
  pub purged_again : (m : Message) (steps : List ℕ) → step_room ≤ length steps → T (passes m) → sequence_of m ∈ sequences_of (take K (log_in b))
      → (d : Delivered) → HostDelivered a.image m steps d → d ≡ record { code = 0; undos = 0; executions = 0; image = a.image; steps = steps }
  purged_again m steps room pass gone d h =
      let p = purge_dropped b K a (host_purged_as b K a call) answered in
      floor_delivered a.image p.image m steps room pass ((p.kept.floors (sequence_of m) (own_numbered m pass)).1 (inr gone)) d h

  -- What `composed_carries` counts by: number and block are those that compose would have given before; so is the group, unless the log is emptied: then "the group is the greatest purged group
  -- plus one". (Dependencies are of the log that is left.)
  pub composed_past : let S = state_in b in let R = state_in a.image in ((line : ℕ) → new_number R line ≡ new_number S line) × ((flag : Bool) → new_block R flag ≡ new_block S flag)
      × (K < length (log_in b) → (s : ℕ) → new_group R s ≡ new_group S s) × (K ≡ length (log_in b) → (s : ℕ) → new_group R s ≡ suc (max S.origin.group (greatest group_of (log_in b))))
  composed_past = let d = purge_dropped b K a (host_purged_as b K a call) answered in (d.kept.number, d.kept.block, d.kept.group, λ e. d.kept.emptied (omega (arith, e)))

-- K = 0 changes nothing.
pub none_purged : (b : List ℕ) → T (is_image b) → (a : Purged) → HostPurged b 0 a → a ≡ record { code = 0; image = b }
none_purged b i a c = host_purged_as b 0 a c ∙ purge_of_none b i

-- ---- COMPOSE, as the host sees it: `bivamolune_compose` answered 0. Number, dependencies, group, block, and what was handed over; length and rest; delivery. Floors, purged group and
-- purged block count too; they are none and 0 before any purge.
module _ (b line commands : List ℕ) (flag priority : ℕ) (buffer : List ℕ) (a : Composed) (call : HostComposed b line commands flag priority buffer a) (answered : a.code ≡ 0) where
  pub composed_carries : let m = message_by a in let S = state_in b in let log = log_of S in
      (line_of (sequence_of m) ≡ number line) × T (not (purged S (sequence_of m)))
      × (number_of (sequence_of m) ≡ suc (max (greatest (number_on (number line)) S.origin.floors) (greatest (λ x. number_on (number line) (sequence_of x)) log)))
      × ((d : ℕ) → (d ∈ dependencies_of m) ↔ (NeededByNone S d × ¬ (d ∈ predecessor_of (sequence_of m)))) × T (ascending (dependencies_of m))
      × (log ≡ [] → group_of m ≡ suc S.origin.group) × (¬ (log ≡ []) → sequence_of m < last_sequence log → group_of m ≡ suc (max S.origin.group (greatest group_of log)))
      × (¬ (log ≡ []) → ¬ (sequence_of m < last_sequence log) → group_of m ≡ max S.origin.group (greatest group_of log))
      × (flag ≡ 1 → block_of m ≡ suc (max S.origin.block (greatest (effective_block S) log))) × (flag ≡ 0 → block_of m ≡ 0)
      × (field m priority_flag_at 1 ≡ flag) × (priority_of m ≡ priority) × (drop (commands_start (dependency_count m)) m ≡ commands)
  composed_carries = let k = (host_composed_keeps b line commands flag priority buffer a call answered).carries in
      (k.on_line, k.above_floor, k.next_number, k.dependencies, k.dependencies_ascend, k.group_first, k.group_raised, k.group_kept, k.block, k.no_block, k.flag_carried, k.priority_carried, k.commands_carried)

  pub composed_written : (a.size ≡ length (message_by a)) × (drop a.size a.message ≡ drop a.size buffer) × T (passes (message_by a))
  composed_written = let k = host_composed_keeps b line commands flag priority buffer a call answered in (k.size, k.rest, k.passes_all)

  pub composed_delivered : length (state_in b).deltas < capacity → (steps : List ℕ) → step_room ≤ length steps → (d : Delivered) → HostDelivered b (message_by a) steps d
      → (d.code ≡ 0) × (d.undos ≡ 0) × ((rest : List Step) × (read_steps (d.undos + d.executions) d.steps ≡ some (execute (sequence_of (message_by a)) ∷ rest)))
  composed_delivered few steps room d h = let f = (host_composed_keeps b line commands flag priority buffer a call answered).delivered few steps room d h in (f.accepted, f.no_undo, (f.rest, f.steps))

-- ---- THE READER, of the library's own calls: "It starts at the first message of the log. Past the last one .., or on a buffer that answers 1 or 2, it gives an empty part and stays there."
pub reading : (b : List ℕ) (r : LogReader) → Starts b r → (parts : List (List ℕ)) (end : LogReader) → NextCalls r parts end → let n = length parts in let log = log_in b in
    (lowest_code (read_conditions b) ≡ 0 → (parts ≡ take n log ++ replicate (n - length log) []) × (reader_of end ≡ record { image = b; offset = message_offset b (min n (length log)) }))
    × (¬ (lowest_code (read_conditions b) ≡ 0) → (parts ≡ replicate n []) × (reader_of end ≡ start b))
reading b r s parts end c = let w = calls_read b r s parts end c in (λ e. ((w.of_image e).given, (w.of_image e).stands), λ n. ((w.of_other n).given, (w.of_other n).stands))

-- ---- TEXTS, of the library's own calls: "Reading a written list yields the sequences, and a text that is read is the one that would be written."
pub written_list_read : (b entry : List ℕ) (w : Converted) → WrittenFrom b entry w → w.code ≡ 0
    → (out : List ℕ) → sequences_room ≤ length out → (a : Converted) → ReadFrom (front w) out a → a ≡ converted_answer 0 b out
written_list_read = written_read

pub read_text_written : (t entry : List ℕ) (r : Converted) → ReadFrom t entry r → r.code ≡ 0
    → (out : List ℕ) → text_room ≤ length out → (a : Converted) → WrittenFrom (front r) out a → a ≡ converted_answer 0 t out
read_text_written = read_written

-- ---- OFFSETS, of the definitions (in the code the walk's invariant, `Walking.here`): "the offset of the first message plus the lengths of all messages before the place, and, in a valid image, past its last message the bytes used"
pub offsets : (b : List ℕ) → let l = messages_in b in ((k : ℕ) → k ≤ length l → get_or (walk (messages_start_in b) l) k 0 ≡ messages_start_in b + sum length (take k l))
    × (T (is_image b) → messages_start_in b + sum length (take (length l) l) ≡ used_count b)
unfolding offset_of
offsets b = ((offset_law b).carried, (offset_law b).used)
