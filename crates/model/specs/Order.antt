-- What runs, and in which order: the state of a station, executable deltas, the effective block, the key, the log and the held ones.
use Rattle.std.specs.Prelude.{◌⊎◌, Bool, true, false, cond, not, ◌&&◌, ◌||◌, List, [], ◌∷◌, map, ℕ, zero, suc, ◌-◌, ◌≤◌, ◌<◌, max, length, replicate, T, eqb, ltb, leb, ℤ, pos}
use Rattle.std.proofs.Math.Option.{Option, some, none}
use Rattle.std.specs.Int.Signed.{le_z}
use Rattle.model.specs.Lists.{◌∈◌, has, every, keep, greatest}
use Rattle.model.specs.Layout.{field_limit, capacity, tag_count, most_floors, lowest_value, highest_value}
use Rattle.model.specs.Tops.{covered, tops_right}
use Rattle.model.specs.Message.{Message, sequence_of, has_priority, group_of, block_of, priority_of, needs_of, passes}
use Rattle.model.specs.Listing as L

-- What a log starts from, a term of ours: what is left of the deltas that were purged (document 02, Paper 4). They were executed before all
-- that is in a log now, and nothing places a delta before them.
pub record Origin : Type 0 where
  -- "A floor is a line and its highest purged number": as one sequence
  pub floors : List ℕ
  -- "the base values, from which the rest is run"
  pub base : List ℤ
  -- the greatest purged effective block, and the greatest purged group
  pub block : ℕ
  pub group : ℕ

-- Nothing was purged: "64 setpoints, all zero at first".
abbrev pub first_origin : Origin
first_origin = record { floors = []; base = replicate tag_count (pos 0); block = 0; group = 0 }

-- "base values .. in range"
abbrev pub in_range : ℤ → Bool
in_range v = le_z lowest_value v && le_z v highest_value

-- "with no floor, base values, block and group are zero"
abbrev pub is_zero : ℤ → Bool
is_zero v = le_z v (pos 0) && le_z (pos 0) v

abbrev pub all_zero : Origin → Bool
all_zero O = every is_zero O.base && eqb O.block 0 && eqb O.group 0

-- "A valid image has base values, purged block and group in range, floor numbers of at least 1"; floors are "ascending, at most 32"
unfoldable pub origin_right : Origin → Bool
origin_right O =
    leb (length O.floors) most_floors && tops_right O.floors
    && eqb (length O.base) tag_count && every in_range O.base
    && leb O.block field_limit && leb O.group field_limit
    && (ltb 0 (length O.floors) || all_zero O)

-- The state of a station: the deltas that it received and that were not purged, a set, and what their log starts from. A set is kept as a
-- list that ascends strictly by sequence (see `RightSet`).
pub record State : Type 0 where
  pub deltas : List Message
  pub origin : Origin

abbrev pub holding : Origin → List Message → State
holding O l = record { deltas = l; origin = O }

-- The state of deltas before any purge.
abbrev pub state_of : List Message → State
state_of l = holding first_origin l

-- "at or below a floor"
abbrev pub purged : State → ℕ → Bool
purged S s = covered S.origin.floors s

abbrev pub Ascending : List Message → Type 0
Ascending [] = Unit {0}
Ascending (m ∷ l) = ((x : Message) → x ∈ l → sequence_of m < sequence_of x) × Ascending l

-- "a set of at most 64 deltas that pass 3 to 6, no sequence twice"; "no message at or below a floor"; and the origin is right
pub record RightSet (S : State) : Type 0 where
  pub ascends : Ascending S.deltas
  pub fits : length S.deltas ≤ capacity
  pub pass : (m : Message) → m ∈ S.deltas → T (passes m)
  pub above : (m : Message) → m ∈ S.deltas → T (not (purged S (sequence_of m)))
  pub right : T (origin_right S.origin)

-- A message joins the set. One of the same sequence stays as it is.
abbrev pub insert : Message → List Message → List Message
insert m [] = m ∷ []
insert m (x ∷ l) =
    cond (ltb (sequence_of m) (sequence_of x)) (m ∷ x ∷ l) (cond (eqb (sequence_of m) (sequence_of x)) (x ∷ l) (x ∷ insert m l))

abbrev pub add : Message → State → State
add m S = holding S.origin (insert m S.deltas)

-- What an accepted delivery makes of a state: its message joins the set. "A delivery at or below a floor answers 0 with no step, and its
-- message joins no set": from a state to itself there is no step.
unfoldable pub take_in : Message → State → State
take_in m S = cond (purged S (sequence_of m)) S (add m S)

abbrev pub sequences_of : List Message → List ℕ
sequences_of l = map sequence_of l

-- The received message of a sequence; the empty one where there is none.
abbrev pub find : List Message → ℕ → Message
find [] s = []
find (m ∷ l) s = cond (eqb (sequence_of m) s) m (find l s)

-- ---- what a delta waits for, at a station of this state: "A need at or below its floor counts as placed"
unfoldable pub needs : State → Message → List ℕ
needs S m = keep (λ s. not (purged S s)) (needs_of m)

-- The sequences that are placed when these deltas are, the last one first.
abbrev pub placed_by : List Message → List ℕ
placed_by l = L.after sequence_of [] l

-- It is not placed, and all that it needs is.
abbrev pub ready : State → List ℕ → Message → Bool
ready S = L.ready sequence_of (needs S)

-- "without repeats", and "each one's needs come earlier"
abbrev pub Listing : State → List ℕ → List Message → Type 0
Listing S = L.Listing sequence_of (needs S)

abbrev pub Executable : State → Message → Type 0
Executable S m = L.Executable sequence_of (needs S) S.deltas m

-- The sequences above the floors that it reaches, step by step back: those that it needs, and those that a received delta which it needs
-- reaches.
abbrev pub Reaches : State → Message → ℕ → Type 0
Reaches S m s = L.Reaches sequence_of (needs S) S.deltas m s

-- In a ring, or behind one: it reaches itself, or a received delta that does.
abbrev pub MeetsRing : State → Message → Type 0
MeetsRing S m = Reaches S m (sequence_of m) ⊎ ((r : Message) × (r ∈ S.deltas) × Reaches S m (sequence_of r) × Reaches S r (sequence_of r))

-- Demand 2: all that it needs above the floors, step by step back, was received and contains no ring.
abbrev pub Grounded : State → Message → Type 0
Grounded S m = L.Grounded sequence_of (needs S) S.deltas m

-- The executable deltas, each after its needs.
unfoldable pub executables_of : State → List Message
executables_of S = L.closure_of sequence_of (needs S) S.deltas

-- "All others are held": by ascending sequence.
unfoldable pub held_of : State → List Message
held_of S = let executable = sequences_of (executables_of S) in keep (λ m. not (has (sequence_of m) executable)) S.deltas

-- ---- the key
-- A delta's own block, as it counts at a station: "its own block (0 without priority)", its message's (6 asks that it is 0 without
-- priority); "no effective block counts below the greatest purged one".
abbrev pub own_block : State → Message → ℕ
own_block S m = max (block_of m) S.origin.block

-- "The effective block is the greater of its own block (0 without priority) and the effective blocks of its needs":
-- along needs of needs, 64 deep, which is as far as the needs of an executable delta reach among 64. `laws_state` shows that
-- equation of every executable delta; the number of a held one is used nowhere.
abbrev pub block_along : State → ℕ → ℕ → ℕ
block_along S zero s = 0
block_along S (suc n) s = max (own_block S (find S.deltas s)) (greatest (block_along S n) (needs S (find S.deltas s)))

abbrev pub effective_block : State → Message → ℕ
effective_block S m = block_along S capacity (sequence_of m)

-- The priority that a delta states, where it has one.
abbrev pub stated_priority : Message → Option ℕ
stated_priority m = cond (has_priority m) (some (priority_of m)) none

-- "explicit priority before none"
abbrev pub turn_of : Option ℕ → ℕ
turn_of (some p) = 0
turn_of none = 1

-- "and the greater priority first": how far it lies below the limit. All without one are level (6 asks that their priority is 0).
abbrev pub rank_of : Option ℕ → ℕ
rank_of (some p) = field_limit - p
rank_of none = field_limit

-- "effective block, lower first; then explicit priority before none, and the greater priority first;
-- then group, lower first; then sequence, lower first": five numbers, each lower first.
abbrev pub key_with : ℕ → Option ℕ → Message → List ℕ
key_with effective priority m = effective ∷ turn_of priority ∷ rank_of priority ∷ group_of m ∷ sequence_of m ∷ []

abbrev pub key_of : State → Message → List ℕ
key_of S m = key_with (effective_block S m) (stated_priority m) m

abbrev pub less : List ℕ → List ℕ → Bool
less [] [] = false
less [] (b ∷ k) = true
less (a ∷ l) [] = false
less (a ∷ l) (b ∷ k) = ltb a b || (eqb a b && less l k)

-- ---- the log, declared and computed
-- "The log lists each executable delta once, needs before, and is the first of all such listings
-- when keys are compared place by place."
abbrev pub IsLog : State → List Message → Type 0
IsLog S l = L.First sequence_of (needs S) (key_of S) less S.deltas l

-- What follows in the log after the placed sequences: of all that are ready the one of the lowest key, again and again.
abbrev pub log_from : State → ℕ → List ℕ → List Message
log_from S = L.grow sequence_of (needs S) (L.lowest_of (key_of S) less) S.deltas

unfoldable pub log_of : State → List Message
log_of S = log_from S (length S.deltas) []
