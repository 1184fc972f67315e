-- Demand 3 over a whole run, and what Papers 1, 4 and 5 of document 02 add to it, as one record, `Agreement`: `CallAgrees` of each call,
-- `ListAgrees` after each list, and equal images of two lists. It says what has to hold of empty, deliver and purge calls that are known by
-- what they promise: `begins given b`, that empty was given this, answered 0 and wrote b, and `answers b c a`, that the call c on the image b
-- answered a. `Begins` and `Answers` are those of the definitions; of the code they are the postconditions of its functions.
-- A list of calls is a list of events, the latest first. `RunExamples` and `PurgeRunExamples`, in this crate's proofs, work one through each,
-- call by call; `NearMisses` and `PurgeNearMisses` have lists that no station in agreement can have.
use Rattle.std.specs.Prelude.{◌≡◌, ◌↔◌, Bool, true, false, cond, not, ◌&&◌, List, [], ◌∷◌, ◌++◌, map, reverse, ℕ, ◌+◌, ◌-◌, ◌≤◌, length, take, drop, T, eqb, ℤ}
use Rattle.std.proofs.Math.Option.{Option, some}
use Rattle.model.specs.Lists.{◌∈◌, has, every, keep}
use Rattle.model.specs.Message.{Message, sequence_of, numbered}
use Rattle.model.specs.Order.{State, purged as purged_at, sequences_of, log_of}
use Rattle.model.specs.Setpoints.{start_values}
use Rattle.model.specs.Image.{image_of, values_in, log_in}
use Rattle.model.specs.Steps.{Step, undo, execute, undos_of, executions_of, StepRecord, records_of, read_records, read_steps, Plays, Standing, PlaysPairs}
use Rattle.model.specs.Calls.{Delivered, Purged, empty_state, empty, deliver_code, deliver, purge_code, purge}
use Rattle.model.specs.PlainStation.{accepts, receive, accepts_purge, receive_purge}
use Rattle.model_runs.specs.SameOrder.{SameOrder}

-- What empty was given: the buffer as lent.
pub record Given : Type 0 where
  pub buffer : List ℕ

-- A call of a list: deliver, with its message and its step buffer as lent; or purge, with its K.
pub data Call : Type 0 where
  delivery : Message → List ℕ → Call
  purging : ℕ → Call

abbrev pub is_delivery : Call → Bool
is_delivery (delivery m steps) = true
is_delivery (purging K) = false

-- "A purge gives no step": its answer, as one of a list.
abbrev pub without_steps : Purged → Delivered
without_steps p = record { code = p.code; undos = 0; executions = 0; image = p.image; steps = [] }

-- A call with what it answered and left in its buffers.
pub record Event : Type 0 where
  pub call : Call
  pub answer : Delivered

-- A list of calls, the latest first. "Each call gets the image as the last one left it."
abbrev pub image_after : List ℕ → List Event → List ℕ
image_after begun [] = begun
image_after begun (e ∷ earlier) = e.answer.image

abbrev pub Run : (List ℕ → Call → Delivered → Type 0) → List ℕ → List Event → Type 0
Run answers begun [] = Unit {0}
Run answers begun (e ∷ earlier) = answers (image_after begun earlier) e.call e.answer × Run answers begun earlier

-- ---- the plain station beside it
abbrev pub accepts? : State → Call → Bool
accepts? S (delivery m steps) = accepts S m (length steps)
accepts? S (purging K) = accepts_purge S K

-- "Its state is a set of messages, empty at first."
abbrev pub state_begun : Given → State
state_begun given = empty_state

abbrev pub state_next : State → Call → State
state_next S (delivery m steps) = receive S m (length steps)
state_next S (purging K) = receive_purge S K

abbrev pub state_after : Given → List Event → State
state_after given [] = state_begun given
state_after given (e ∷ earlier) = state_next (state_after given earlier) e.call

-- its log, as a list of sequences
abbrev pub log_after : Given → List Event → List ℕ
log_after given events = sequences_of (log_of (state_after given events))

-- The log that a call's steps are played from, by the call's code. A delivery's steps find the log as the calls before left it. "A purge gives
-- no step; the log that the steps are played on loses the same K": where the purge was answered with 0.
abbrev pub played_from : {A : Type 0} → Call → ℕ → List A → List A
played_from (delivery m steps) code log = log
played_from (purging K) code log = cond (eqb code 0) (drop K log) log

-- a call's old log: the one before it, as its steps find it
abbrev pub old_log : State → Call → ℕ → List Message
old_log S c code = played_from c code (log_of S)

-- the lowest number that applies
abbrev pub code_for : List ℕ → Call → ℕ
code_for b (delivery m steps) = deliver_code b m (length steps)
code_for b (purging K) = purge_code b K

-- the messages that a call brings
abbrev pub messages_of_call : Call → List Message
messages_of_call (delivery m steps) = m ∷ []
messages_of_call (purging K) = []

-- the messages of the calls that were answered with 0
abbrev pub accepted_in : List Event → List Message
accepted_in [] = []
accepted_in (e ∷ earlier) = cond (eqb e.answer.code 0) (messages_of_call e.call ++ accepted_in earlier) (accepted_in earlier)

-- "remaining deltas": those of them that are above the floors now
abbrev pub remaining_in : Given → List Event → List Message
remaining_in given events = keep (λ m. not (purged_at (state_after given events) (sequence_of m))) (accepted_in events)

-- "Equal images are promised to stations whose floors, base values, purged block and group agree and whose remaining deltas are the same"
-- (what empty was given is of no matter)
pub record SameStation (given : Given) (events : List Event) (other : Given) (others : List Event) : Type 0 where
  pub floors : (state_after given events).origin.floors ≡ (state_after other others).origin.floors
  pub base : (state_after given events).origin.base ≡ (state_after other others).origin.base
  pub block : (state_after given events).origin.block ≡ (state_after other others).origin.block
  pub group : (state_after given events).origin.group ≡ (state_after other others).origin.group
  pub remaining : (m : Message) → m ∈ remaining_in given events ↔ m ∈ remaining_in other others

-- ---- what was purged: the sequences that a call took off the front of the log, and those that all calls took, in their order
abbrev pub gone_by : Call → ℕ → List ℕ → List ℕ
gone_by (delivery m steps) code log = []
gone_by (purging K) code log = cond (eqb code 0) (take K log) []

abbrev pub purged_after : Given → List Event → List ℕ
purged_after given [] = []
purged_after given (e ∷ earlier) = purged_after given earlier ++ gone_by e.call e.answer.code (log_after given earlier)

-- ---- "The steps of a call are the records at the front of its step buffer: as many undos as its answer counts,
-- then as many executions as its answer counts; a refused call has none" (its counts are 0)
pub record StepsTaken (e : Event) (undone executed : List ℕ) : Type 0 where
  pub read : read_steps (e.answer.undos + e.answer.executions) e.answer.steps ≡ some (map undo undone ++ map execute executed)
  pub undos : length undone ≡ e.answer.undos
  pub executions : length executed ≡ e.answer.executions

-- What the steps of all calls lead to. `from` says what a call's steps are played on, by its code and by what the calls before it led to.
abbrev pub PlayedOn : (Call → ℕ → List ℕ → List ℕ) → List Event → List ℕ → Type 0
PlayedOn from [] log = log ≡ []
PlayedOn from (e ∷ earlier) log =
    (old : List ℕ) × (undone : List ℕ) × (executed : List ℕ) × PlayedOn from earlier old × StepsTaken e undone executed
    × Plays (from e.call e.answer.code old) (map undo undone ++ map execute executed) log

-- "The played log starts empty."
abbrev pub Played : List Event → List ℕ → Type 0
Played = PlayedOn played_from

-- All that was executed and never undone, a term of ours: the steps are played on a list that no purge shortens.
abbrev pub History : List Event → List ℕ → Type 0
History = PlayedOn (λ c code log. log)

-- The records of a call, with their pairs.
abbrev pub records_read : Delivered → Option (List StepRecord)
records_read a = read_records (a.undos + a.executions) a.steps

-- The executions that a call's pairs are played on, the latest first: a purge lets those of the deltas go that it drops, the first K.
abbrev pub standing_from : Call → ℕ → List Standing → List Standing
standing_from (delivery m steps) code standing = standing
standing_from (purging K) code standing = cond (eqb code 0) (take (length standing - K) standing) standing

-- The pairs of all steps, played in turn on setpoints that start as the image's do, beside the executions that stand.
abbrev pub PairsPlayed : List ℕ → List Event → List Standing → List ℤ → Type 0
PairsPlayed begun [] standing values = (standing ≡ []) × (values ≡ values_in begun)
PairsPlayed begun (e ∷ earlier) standing values =
    (before : List Standing) × (old : List ℤ) × (records : List StepRecord) × PairsPlayed begun earlier before old
    × (records_read e.answer ≡ some records) × PlaysPairs (standing_from e.call e.answer.code before) old records standing values

-- ---- "after any accepted delivery, two deltas that were both in the log before still stand in the same order to each other" (document 02,
-- Paper 5): of the logs in the image b that the call c got and in the one that it left. It is asked of refused calls too, and of a purge, where
-- the log before is taken without what the purge drops.
abbrev pub KeepsOrder : List ℕ → Call → Delivered → Type 0
KeepsOrder b c a = SameOrder (sequences_of (played_from c a.code (log_in b))) (sequences_of (log_in a.image))

-- And of a call's steps alone, a promise of ours: what it undoes it executes again, in the order of the log, which is the reverse of the
-- order of its undos. (That its steps can be read is said by `CallAgrees.records`.)
abbrev pub ExecutesAgain : Event → Type 0
ExecutesAgain e = (undone executed : List ℕ) → StepsTaken e undone executed → keep (λ s. has s undone) executed ≡ reverse undone

-- ---- the demand
-- What it says of a call c on the image b that answered a: S is the plain station's state before it, `next` the one after it (in
-- `Agreement` it is `state_next S c`).
pub record CallAgrees (S next : State) (b : List ℕ) (c : Call) (a : Delivered) : Type 0 where
  -- "Deliver answers 0 exactly where the plain station accepts, and otherwise the lowest number that applies", and so does purge.
  pub accepted : (a.code ≡ 0) ↔ T (accepts? S c)
  pub code : a.code ≡ code_for b c
  -- "The number of a delivery's undos is the length of its old log less that of the longest common start,
  -- and of its executions the length of its new log less the same."
  pub undos : a.undos ≡ undos_of (sequences_of (old_log S c a.code)) (sequences_of (log_of next))
  pub executions : a.executions ≡ executions_of (sequences_of (old_log S c a.code)) (sequences_of (log_of next))
  -- "Its rivals are all lists of undos and executions that can be played from its old log to its new one, both kinds counted
  -- together": no rival is shorter.
  pub fewest : (rival : List Step) → Plays (sequences_of (old_log S c a.code)) rival (sequences_of (log_of next)) → a.undos + a.executions ≤ length rival
  -- "An execution lists the value after each command; an undo lists the value restored by each command, last command first": the records
  -- of a call are those between its old log and its new one, both run from the start values after it, which a delivery leaves as they
  -- were. (Of a purge there are none.)
  pub records : records_read a ≡ some (records_of (start_values next) (old_log S c a.code) (log_of next))
  -- "A late arrival only squeezes in": in the images, and by the steps.
  pub order : KeepsOrder b c a
  pub again : ExecutesAgain (record { call = c; answer = a })

-- What it says after a list of calls.
pub record ListAgrees (given : Given) (b : List ℕ) (events : List Event) : Type 0 where
  -- "Its log and image are those of the set": the image is the plain station's.
  pub image : image_after b events ≡ image_of (state_after given events)
  -- "After each call the played log, the image's log and the plain station's log are the same sequences in the same order."
  pub played : (log : List ℕ) → Played events log ↔ (log ≡ log_after given events)
  pub image_log : sequences_of (log_in (image_after b events)) ≡ log_after given events
  -- "Played on the setpoints, the pairs must lead to the image's values": they can be played, so that each pair of an undo restores
  -- what its execution's pair had found, and they lead to these values alone.
  pub setpoints : (values : List ℤ) → ((standing : List Standing) × PairsPlayed b events standing values) ↔ (values ≡ values_in (image_after b events))
  -- "A floor is a line and its highest purged number": what was purged is what is at or below a floor (a number 0000 is no delta's).
  pub purged : (s : ℕ) → (s ∈ purged_after given events) ↔ T (numbered s && purged_at (state_after given events) s)
  -- "Purged deltas keep their order ahead of all later ones": all that was executed and never undone is what was purged, and then the log.
  pub history : (all : List ℕ) → History events all ↔ (all ≡ purged_after given events ++ log_after given events)

-- "a single claim over whole lists": what holds after every list of calls from an image that empty wrote, and of every call, which is the
-- latest of the list up to it.
pub record Agreement (begins : Given → List ℕ → Type 0) (answers : List ℕ → Call → Delivered → Type 0) : Type 0 where
  pub call : (given : Given) (b : List ℕ) → begins given b → (e : Event) (earlier : List Event) → Run answers b (e ∷ earlier)
      → CallAgrees (state_after given earlier) (state_after given (e ∷ earlier)) (image_after b earlier) e.call e.answer
  pub list : (given : Given) (b : List ℕ) → begins given b → (events : List Event) → Run answers b events → ListAgrees given b events
  -- "So a set of deltas has one image", on any two stations: of what remains, beside the same floors, base values, block and group.
  pub equal : (given other : Given) (b c : List ℕ) → begins given b → begins other c → (events others : List Event)
      → Run answers b events → Run answers c others → SameStation given events other others → image_after b events ≡ image_after c others

-- ---- lists of deliveries alone, which are document 01's: there equal accepted sets are enough, since "a set of deltas has one image"
abbrev pub deliveries : List Event → Bool
deliveries events = every (λ e. is_delivery e.call) events

pub record SameAccepted (events others : List Event) : Type 0 where
  pub accepted : (m : Message) → m ∈ accepted_in events ↔ m ∈ accepted_in others

abbrev pub EqualAccepted : (Given → List ℕ → Type 0) → (List ℕ → Call → Delivered → Type 0) → Type 0
EqualAccepted begins answers = (given other : Given) (b c : List ℕ) → begins given b → begins other c → (events others : List Event)
    → T (deliveries events) → T (deliveries others) → Run answers b events → Run answers c others → SameAccepted events others
    → image_after b events ≡ image_after c others

-- ---- the calls of the definitions
abbrev pub Begins : Given → List ℕ → Type 0
Begins given b = ((empty given.buffer).code ≡ 0) × (b ≡ (empty given.buffer).image)

abbrev pub Answers : List ℕ → Call → Delivered → Type 0
Answers b (delivery m steps) a = a ≡ deliver b m steps
Answers b (purging K) a = a ≡ without_steps (purge b K)
