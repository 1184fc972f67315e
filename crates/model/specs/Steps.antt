-- Steps: from an old log to a new one, what they carry, their bytes, reading them back, and playing them on a log and on setpoints.
use Rattle.std.specs.Prelude.{◌≡◌, cond, List, [], ◌∷◌, ◌++◌, map, reverse, ℕ, zero, suc, ◌*◌, ◌-◌, length, take, drop, get_or, set, replicate, eqb, ℤ, pos}
use Rattle.std.proofs.Math.Option.{Option, some, none}
use Rattle.model.specs.Lists.{same}
use Rattle.model.specs.Bytes.{bytes, field, parts, join, integer, word}
use Rattle.model.specs.Layout.{most_commands, sequence_size, value_size, pair_count_at, pair_count_size, step_sequence_at, pairs_at, pair_tag_size, pair_size, step_size}
use Rattle.model.specs.Message.{Message, sequence_of}
use Rattle.model.specs.Order.{State, sequences_of, log_of}
use Rattle.model.specs.Setpoints.{start_values, Change, changes_of, run_delta}

pub data Step : Type 0 where
  undo execute : ℕ → Step

-- The length of the longest common start of two logs, as lists of their sequences.
abbrev pub common : List ℕ → List ℕ → ℕ
common [] new = 0
common (a ∷ old) [] = 0
common (a ∷ old) (b ∷ new) = cond (eqb a b) (suc (common old new)) 0

-- "A delivery keeps the longest common start of old and new log, undoes the old rest from its end, then executes the new rest."
abbrev pub steps_of : List ℕ → List ℕ → List Step
steps_of old new = map undo (reverse (drop (common old new) old)) ++ map execute (drop (common old new) new)

abbrev pub undos_of : List ℕ → List ℕ → ℕ
undos_of old new = length old - common old new

abbrev pub executions_of : List ℕ → List ℕ → ℕ
executions_of old new = length new - common old new

-- ---- what a step carries: a pair for each command of its delta
pub record Pair : Type 0 where
  pub tag : ℕ
  pub value : ℤ

abbrev pub pair_of : ℕ → ℤ → Pair
pair_of tag value = record { tag = tag; value = value }

-- A record of a step buffer: a step and its pairs.
pub record StepRecord : Type 0 where
  pub step : Step
  pub pairs : List Pair

-- "the value after each command"
abbrev pub values_after : List Change → List Pair
values_after changes = map (λ c. pair_of c.tag c.after) changes

-- "the value restored by each command, last command first"
abbrev pub values_restored : List Change → List Pair
values_restored changes = reverse (map (λ c. pair_of c.tag c.before) changes)

-- The execution of a delta that finds these values, and the undo of one that had found them.
unfoldable pub execution_of : Message → List ℤ → StepRecord
execution_of m values = record { step = execute (sequence_of m); pairs = values_after (changes_of m values) }

unfoldable pub undo_of : Message → List ℤ → StepRecord
undo_of m values = record { step = undo (sequence_of m); pairs = values_restored (changes_of m values) }

-- A record for each delta of a log, by the values that the delta finds there.
abbrev pub along : (Message → List ℤ → StepRecord) → List Message → List ℤ → List StepRecord
along recordOf [] values = []
along recordOf (m ∷ l) values = recordOf m values ∷ along recordOf l (run_delta m values)

-- The steps of `steps_of` with their pairs (`records_steps` in `laws_wire`): both logs are run from these values on.
unfoldable pub records_of : List ℤ → List Message → List Message → List StepRecord
records_of start old new =
    let kept = common (sequences_of old) (sequences_of new) in
    reverse (drop kept (along undo_of old start)) ++ drop kept (along execution_of new start)

-- The records of a delivery that leads from one state to the next.
abbrev pub records_between : State → State → List StepRecord
records_between S next = records_of (start_values S) (log_of S) (log_of next)

-- ---- "A step becomes 80 bytes"
-- "the old 16": 01 undo or 02 execute, the count of pairs, the sequence
abbrev pub head_bytes : Step → ℕ → List ℕ
head_bytes (undo s) count = 1 ∷ bytes pair_count_size count ++ bytes sequence_size s
head_bytes (execute s) count = 2 ∷ bytes pair_count_size count ++ bytes sequence_size s

-- "tag and value, four bytes each"
abbrev pub pair_bytes : Pair → List ℕ
pair_bytes p = bytes pair_tag_size p.tag ++ bytes value_size (word p.value)

abbrev pub pairs_bytes : List Pair → List ℕ
pairs_bytes l = join (map pair_bytes l)

-- "then eight pairs ..., unused pairs zero"
unfoldable pub record_bytes : StepRecord → List ℕ
record_bytes r =
    let count = length r.pairs in
    head_bytes r.step count ++ pairs_bytes r.pairs ++ replicate (pair_size * (most_commands - count)) 0

abbrev pub records_bytes : List StepRecord → List ℕ
records_bytes l = join (map record_bytes l)

-- ---- a record read back from the front of a buffer: none where the first 80 bytes are not those of a record of at most eight pairs.
-- Whether its tags and values are right is not asked here.
abbrev pub pair_in : List ℕ → Pair
pair_in b = pair_of (field b 0 pair_tag_size) (integer (field b pair_tag_size value_size))

abbrev pub record_in : List ℕ → StepRecord
record_in b =
    let s = field b step_sequence_at sequence_size in record {
      step = cond (eqb (field b 0 1) 1) (undo s) (execute s);
      pairs = map pair_in (parts (field b pair_count_at pair_count_size) pair_size (drop pairs_at b));
    }

unfoldable pub read_record : List ℕ → Option StepRecord
read_record b = cond (same (take step_size b) (record_bytes (record_in b))) (some (record_in b)) none

abbrev pub both : Option StepRecord → Option (List StepRecord) → Option (List StepRecord)
both none l = none
both (some r) none = none
both (some r) (some l) = some (r ∷ l)

-- The records at the front of a buffer.
abbrev pub read_records : ℕ → List ℕ → Option (List StepRecord)
read_records zero b = some []
read_records (suc n) b = both (read_record b) (read_records n (drop step_size b))

-- The steps alone, without their pairs.
abbrev pub steps_in : Option (List StepRecord) → Option (List Step)
steps_in none = none
steps_in (some l) = some (map (λ r. r.step) l)

abbrev pub read_steps : ℕ → List ℕ → Option (List Step)
read_steps n b = steps_in (read_records n b)

-- ---- steps played on a log
-- "An undo must name its last delta and takes it off; an execution adds the named delta at its end."
abbrev pub Plays : List ℕ → List Step → List ℕ → Type 0
Plays log [] end = log ≡ end
Plays log (undo s ∷ l) end = (rest : List ℕ) × (log ≡ rest ++ s ∷ []) × Plays rest l end
Plays log (execute s ∷ l) end = Plays (log ++ s ∷ []) l end

-- ---- pairs played on setpoints
-- Each pair sets its tag to its value.
abbrev pub set_pairs : List Pair → List ℤ → List ℤ
set_pairs [] values = values
set_pairs (p ∷ l) values = set_pairs l (set values p.tag p.value)

-- What each of them finds at its tag.
abbrev pub found_by : List Pair → List ℤ → List Pair
found_by [] values = []
found_by (p ∷ l) values = pair_of p.tag (get_or values p.tag (pos 0)) ∷ found_by l (set values p.tag p.value)

-- An execution that stands, a term of ours: its delta's sequence, and what its pairs found.
pub record Standing : Type 0 where
  pub sequence : ℕ
  pub found : List Pair

-- An execution joins those that stand, the latest first. An undo takes the latest off: it names that execution's sequence, and lists
-- what that execution's pairs found, the last of them first.
abbrev pub StandsAfter : List Standing → List ℤ → Step → List Pair → List Standing → Type 0
StandsAfter before values (execute s) pairs after = after ≡ record { sequence = s; found = found_by pairs values } ∷ before
StandsAfter before values (undo s) pairs after = before ≡ record { sequence = s; found = reverse pairs } ∷ after

-- Records played one after the other, from the executions that stand and the setpoints before to those after.
abbrev pub PlaysPairs : List Standing → List ℤ → List StepRecord → List Standing → List ℤ → Type 0
PlaysPairs standing values [] end final = (standing ≡ end) × (values ≡ final)
PlaysPairs standing values (r ∷ l) end final =
    (next : List Standing) × StandsAfter standing values r.step r.pairs next × PlaysPairs next (set_pairs r.pairs values) l end final
