-- What a step carries: the pairs of an execution and of an undo, a record's 80 bytes, records read back, and pairs played on setpoints.
-- Setpoints are here a list of four, tags 0 to 3.
use mathlib.Core.Path.{◌≡◌, refl}
use mathlib.Core.Option.{Option, some, none}
use mathlib.Core.List.{List, [], ◌∷◌, ◌++◌, map}
use Prim.Native.Nat.{ℕ}
use lib.ListN.{take, drop, replicate}
use lib.IntN.{ℤ, pos, negsuc}
use Rattle.model.specs.Message.{Message}
use Rattle.model.specs.Setpoints.{stop, raise, operate, change_of, apply, run_command, run_delta, changes_of}
use Rattle.model.specs.Steps.{Step, undo, execute, Pair, pair_of, StepRecord, execution_of, undo_of, records_of, record_bytes, records_bytes, read_record, read_records, read_steps, set_pairs, found_by}
use Rattle.model.proofs.ExampleMessages.{A, B, command, plain, a1, b1, stopped, raised}

-- ---- records
abbrev pub carrying : Step → List Pair → StepRecord
carrying step pairs = record { step = step; pairs = pairs }

-- a step that sets tag 3 alone
abbrev pub setting : Step → ℤ → StepRecord
setting step value = carrying step (pair_of 3 value ∷ [])

-- ---- a delta that finds these setpoints: its execution's pairs, and its undo's
abbrev found : List ℤ
found = pos 5 ∷ pos 999990 ∷ negsuc 6 ∷ pos 40 ∷ []

abbrev carried : Message → List Pair × List Pair
carried m = ((execution_of m found).pairs, (undo_of m found).pairs)

-- tag 0 twice, and tag 1 between
abbrev twice : Message
twice = plain (A 1) [] (command 1 0 (pos 8) ++ command 2 1 (pos 3) ++ command 2 0 (negsuc 11))

deltas : List (Message × (List Pair × List Pair))
deltas =
    (a1, (pair_of 3 (pos 1500) ∷ [], pair_of 3 (pos 40) ∷ []))
    -- The sum is stopped: what is restored was there before, and is not what a subtraction would give.
    ∷ (
      stopped,
      (pair_of 3 (pos 999990) ∷ pair_of 3 (pos 1000000) ∷ pair_of 3 (pos 999980) ∷ [], pair_of 3 (pos 1000000) ∷ pair_of 3 (pos 999990) ∷ pair_of 3 (pos 40) ∷ []),
    )
    -- "last command first"
    ∷ (
      twice,
      (pair_of 0 (pos 8) ∷ pair_of 1 (pos 999993) ∷ pair_of 0 (negsuc 3) ∷ [], pair_of 0 (pos 8) ∷ pair_of 1 (pos 999990) ∷ pair_of 0 (pos 5) ∷ []),
    )
    -- Commands that change nothing have their pair too: to 3 and to -1 nothing is raised.
    ∷ (
      raised,
      (
        pair_of 3 (pos 5) ∷ pair_of 3 (pos 5) ∷ pair_of 3 (pos 9) ∷ pair_of 3 (pos 9) ∷ [],
        pair_of 3 (pos 9) ∷ pair_of 3 (pos 5) ∷ pair_of 3 (pos 5) ∷ pair_of 3 (pos 40) ∷ [],
      ),
    )
    ∷ []

deltas_hold : map (λ e. carried e.0) deltas ≡ map (λ e. e.1) deltas
unfolding deltas execution_of undo_of changes_of run_command apply change_of operate raise stop
deltas_hold = refl

-- ---- the records between two logs, from setpoints of zero on
abbrev zeros : List ℤ
zeros = replicate 4 (pos 0)

-- A2 adds 2 to tag 3
abbrev a2 : Message
a2 = plain (A 2) [] (command 2 3 (pos 2))

logs : List ((List Message × List Message) × List StepRecord)
logs =
    (([], []), [])
    ∷ ((a1 ∷ [], a1 ∷ []), [])
    -- B1 then A1: undo B1 restores 0, execute A1 1500, B1 1480.
    ∷ (
      (b1 ∷ [], a1 ∷ b1 ∷ []),
      carrying (undo (B 1)) (pair_of 3 (pos 0) ∷ []) ∷ carrying (execute (A 1)) (pair_of 3 (pos 1500) ∷ []) ∷ carrying (execute (B 1)) (pair_of 3 (pos 1480) ∷ []) ∷ [],
    )
    -- what is kept is run before
    ∷ (
      (a1 ∷ b1 ∷ [], a1 ∷ a2 ∷ b1 ∷ []),
      carrying (undo (B 1)) (pair_of 3 (pos 1500) ∷ []) ∷ carrying (execute (A 2)) (pair_of 3 (pos 1502) ∷ []) ∷ carrying (execute (B 1)) (pair_of 3 (pos 1482) ∷ []) ∷ [],
    )
    -- the old rest is undone from its end
    ∷ (
      (b1 ∷ a2 ∷ [], a1 ∷ []),
      carrying (undo (A 2)) (pair_of 3 (negsuc 19) ∷ []) ∷ carrying (undo (B 1)) (pair_of 3 (pos 0) ∷ []) ∷ carrying (execute (A 1)) (pair_of 3 (pos 1500) ∷ []) ∷ [],
    )
    ∷ []

logs_hold : map (λ e. records_of zeros e.0.0 e.0.1) logs ≡ map (λ e. e.1) logs
unfolding logs records_of execution_of undo_of changes_of run_delta run_command apply change_of operate raise stop
logs_hold = refl

-- ---- "A step becomes 80 bytes": kind, count of pairs, sequence, pairs, unused pairs zero
abbrev undo_a1 : StepRecord
undo_a1 = carrying (undo (A 1)) (pair_of 3 (negsuc 19) ∷ [])

records : List (StepRecord × List ℕ)
records = (
  undo_a1,
  0x01 ∷ 0 ∷ 0 ∷ 0x01 ∷ 0 ∷ 0 ∷ 0 ∷ 0 ∷ 0 ∷ 0x0A ∷ 0 ∷ 0 ∷ 0 ∷ 0x01 ∷ 0 ∷ 0x01
      ∷ 0 ∷ 0 ∷ 0 ∷ 0x03 ∷ 0xFF ∷ 0xFF ∷ 0xFF ∷ 0xEC ∷ replicate 56 0,
)
    ∷ (
      carrying (execute (B 0x203)) (pair_of 63 (pos 1000000) ∷ pair_of 0 (pos 0) ∷ []),
      0x02 ∷ 0 ∷ 0 ∷ 0x02 ∷ 0 ∷ 0 ∷ 0 ∷ 0 ∷ 0 ∷ 0x0B ∷ 0 ∷ 0 ∷ 0 ∷ 0x01 ∷ 0x02 ∷ 0x03
          ∷ 0 ∷ 0 ∷ 0 ∷ 0x3F ∷ 0 ∷ 0x0F ∷ 0x42 ∷ 0x40 ∷ replicate 56 0,
    )
    ∷ []

records_hold : map (λ e. record_bytes e.0) records ≡ map (λ e. e.1) records
unfolding records record_bytes
records_hold = refl

-- ---- read back: all pairs used, and two records one after the other
abbrev full : StepRecord
full =
    carrying (execute (A 1)) (pair_of 1 (pos 1) ∷ pair_of 2 (negsuc 1) ∷ pair_of 3 (pos 3) ∷ pair_of 3 (negsuc 3) ∷ pair_of 5 (pos 5) ∷ pair_of 6 (pos 6) ∷ pair_of 7 (pos 7) ∷ pair_of 63 (negsuc 999999) ∷ [])

read_back : read_records 2 (records_bytes (undo_a1 ∷ full ∷ []) ++ 0xEE ∷ []) ≡ some (undo_a1 ∷ full ∷ [])
unfolding read_record record_bytes
read_back = refl

read_steps_lem : read_steps 2 (records_bytes (undo_a1 ∷ full ∷ [])) ≡ some (undo (A 1) ∷ execute (A 1) ∷ [])
unfolding read_record record_bytes
read_steps_lem = refl

-- bytes that are a record or none: 79 of them, kinds of 0 and 3, a count of 0 before a pair that is not zero, of 9 and of 256, an unused
-- pair that is not zero. With a count of 2 the second pair is one of tag 0; a count of 0 and zeros are a record without pairs.
abbrev front : ℕ → ℕ → ℕ → List ℕ
front kind high low = kind ∷ 0 ∷ high ∷ low ∷ drop 4 (record_bytes undo_a1)

reads : List (List ℕ × Option StepRecord)
reads =
    (front 1 0 1, some undo_a1)
    ∷ (take 79 (front 1 0 1), none)
    ∷ (front 0 0 1, none)
    ∷ (front 3 0 1, none)
    ∷ (front 1 0 0, none)
    ∷ (take 16 (front 1 0 0) ++ replicate 64 0, some (carrying (undo (A 1)) []))
    ∷ (front 1 0 2, some (carrying (undo (A 1)) (pair_of 3 (negsuc 19) ∷ pair_of 0 (pos 0) ∷ [])))
    ∷ (front 1 0 9, none)
    ∷ (front 1 1 0, none)
    ∷ (take 79 (front 1 0 1) ++ 1 ∷ [], none)
    ∷ []

reads_hold : map (λ e. read_record e.0) reads ≡ map (λ e. e.1) reads
unfolding reads read_record record_bytes
reads_hold = refl

-- ---- pairs played on these setpoints: what they find, and what they leave
played : List (List Pair × (List Pair × List ℤ))
played =
    ([], ([], found))
    ∷ (pair_of 3 (pos 7) ∷ [], (pair_of 3 (pos 40) ∷ [], pos 5 ∷ pos 999990 ∷ negsuc 6 ∷ pos 7 ∷ []))
    -- a tag twice: the second finds what the first left
    ∷ (
      pair_of 0 (pos 8) ∷ pair_of 1 (pos 9) ∷ pair_of 0 (negsuc 3) ∷ [],
      (pair_of 0 (pos 5) ∷ pair_of 1 (pos 999990) ∷ pair_of 0 (pos 8) ∷ [], negsuc 3 ∷ pos 9 ∷ negsuc 6 ∷ pos 40 ∷ []),
    )
    ∷ []

played_hold : map (λ e. (found_by e.0 found, set_pairs e.0 found)) played ≡ map (λ e. e.1) played
unfolding played
played_hold = refl
