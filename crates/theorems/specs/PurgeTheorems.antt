-- The laws of a purge (document 02, Paper 4), of the definitions, each as one statement, and demands 2 and 3 over lists with purges.
use Rattle.std.specs.Prelude.{◌≡◌, ◌⊎◌, ◌↔◌, Bool, true, not, ℕ, zero, suc, ◌+◌, ◌≤◌, ◌<◌, max, length, take, drop, T}
use Rattle.std.proofs.Math.Path.{refl, sym, ap, ap₂, subst}
use Rattle.std.proofs.Common.{◌∙◌, ⊎_elim, arith, length-append, ltb→lt}
use mathlib.Core.List.Memᴰ
use mathlib.Core.List.{List}
use Rattle.std.proofs.Math.Dec.{not_T}
use Rattle.model.specs.Lists.{◌∈◌, greatest}
use Rattle.model.specs.Layout.{most_floors}
use Rattle.model.specs.Message.{Message, sequence_of, group_of, numbered, passes}
use Rattle.model.specs.Order.{Origin, State, purged, sequences_of, effective_block, key_of, log_of, held_of}
use Rattle.model.specs.Setpoints.{start_values, run_log, setpoints_of}
use Rattle.model.specs.Purge.{origin_past, purge_first}
use Rattle.model.specs.Image.{image_of, Valid, origin_in, state_in, values_in, log_in, messages_in, held_in, is_image}
use Rattle.model.specs.Compose.{new_number, new_block, new_group, highest_group}
use Rattle.model.specs.Codes.{small_steps, exceeds_log, many_floors}
use Rattle.model.specs.Calls.{deliver, Purged, purge_answer, purge}
use Rattle.model.specs.PlainStation.{accepts_purge, receive_purge}
use Rattle.model_runs.specs.Run.{Given, purging, without_steps, Event, image_after, Run, purged_after, EqualAccepted, Begins, Answers}
use Rattle.laws_order.specs.TestLaws.{and_i, is_true, decide}
use Rattle.laws_origin.specs.OriginLaws.{few_floors}
use Rattle.laws_state.specs.ImageLaws.{image_passes, state_back, origin_back, messages_back, log_back, held_back, image_own, own_valid}
use Rattle.laws_state.specs.ImageValueLaws.{values_back}
use Rattle.laws_purge.specs.PurgedFloors.{purged_after_lem, left_is}
use Rattle.laws_purge.specs.PurgeLaws.{purge_log}
use Rattle.laws_purge.specs.PurgedBlocks.{effective_stays, key_stays}
use Rattle.laws_purge.specs.PurgedState.{purge_start, purge_held, purge_setpoints, purge_count, log_held_length, purge_none}
use Rattle.laws_purge.specs.PurgeValid.{purge_valid}
use Rattle.laws_purge.specs.PurgeCodes.{state_purge_code, purge_is, purge_code_zero, accepts_purge_lem}
use Rattle.laws_purge.specs.PurgedCompose.{number_stays, block_stays, group_stays, group_emptied}
use Rattle.laws_purge.specs.PurgeTwice.{purge_twice}
use Rattle.laws_run.specs.CallRuns.{CallFacts, call_facts, next_valid}
use Rattle.laws_run.specs.RunLaws.{agreement, purged_again}
use Rattle.laws_run.specs.AcceptedRuns.{equal_accepted}
use Rattle.theorems.specs.Theorems.{purge_codes}

-- What a purge of the first K of a log leaves as it was, of the states before and after it and their logs: effective blocks and keys of the
-- rest, what the floors cover but for what was dropped, and what compose counts: "Compose counts floors, purged group and purged block too; on
-- a log emptied by purging the group is the greatest purged group plus one".
pub record Kept (S R : State) (K : ℕ) (log rest : List Message) : Type 0 where
  pub keys : (m : Message) → m ∈ rest → (effective_block R m ≡ effective_block S m) × (key_of R m ≡ key_of S m)
  pub floors : (s : ℕ) → T (numbered s) → T (purged R s) ↔ (T (purged S s) ⊎ (s ∈ sequences_of (take K log)))
  pub number : (line : ℕ) → new_number R line ≡ new_number S line
  pub block : (flag : Bool) → new_block R flag ≡ new_block S flag
  pub group : K < length log → (s : ℕ) → new_group R s ≡ new_group S s
  pub emptied : length log ≤ K → (s : ℕ) → new_group R s ≡ suc (max S.origin.group (highest_group log))

state_kept : (S : State) → Valid S → (K : ℕ) → Kept S (purge_first K S) K (log_of S) (drop K (log_of S))
state_kept S v K = record {
  keys = λ m k. (effective_stays S v K m k, key_stays S v K m k);
  floors = purged_after_lem S v K;
  number = number_stays S v K;
  block = block_stays S v K;
  group = group_stays S v K;
  emptied = group_emptied S v K;
}

-- "A call drops the first K log messages and frees their bytes for new ones; the setpoints after them become the base values, from which the
-- rest is run."
pub record PurgeLaw (S : State) (K : ℕ) : Type 0 where
  pub valid : Valid (purge_first K S)
  -- the rest of the log stands as it stood; held ones and setpoints stay
  pub log : log_of (purge_first K S) ≡ drop K (log_of S)
  pub held : held_of (purge_first K S) ≡ held_of S
  pub setpoints : setpoints_of (purge_first K S) ≡ setpoints_of S
  pub base : start_values (purge_first K S) ≡ run_log (take K (log_of S)) (start_values S)
  -- what is left, and how many: there is room for K more
  pub left : (m : Message) → m ∈ (purge_first K S).deltas ↔ ((m ∈ S.deltas) × (sequence_of m ∈ sequences_of (take K (log_of S)) → ⊥))
  pub freed : length (purge_first K S).deltas + K ≡ length S.deltas
  pub kept : Kept S (purge_first K S) K (log_of S) (drop K (log_of S))

pub purge_law : (S : State) → Valid S → (K : ℕ) → T (accepts_purge S K) → PurgeLaw S K
purge_law S v K t = record {
  valid = purge_valid S v K (accepts_purge_lem S K t).1;
  log = purge_log S v K;
  held = purge_held S v K;
  setpoints = purge_setpoints S v K;
  base = purge_start K S;
  left = left_is S v K;
  freed = purge_count S v K (accepts_purge_lem S K t).0;
  kept = state_kept S v K;
}

-- K = 0 changes nothing, and two purges in turn are one.
pub purge_none_law : (S : State) → purge_first 0 S ≡ S
purge_none_law = purge_none

pub purge_twice_law : (S : State) → Valid S → (K more : ℕ) → purge_first more (purge_first K S) ≡ purge_first (K + more) S
purge_twice_law = purge_twice

-- The call on an image, answered with 0: what it left there is an image, too.
pub record Dropped (b : List ℕ) (K : ℕ) (left : List ℕ) : Type 0 where
  pub image : T (is_image left)
  pub log : log_in left ≡ drop K (log_in b)
  pub held : held_in left ≡ held_in b
  pub setpoints : values_in left ≡ values_in b
  pub base : (origin_in left).base ≡ run_log (take K (log_in b)) (origin_in b).base
  pub block : (origin_in left).block ≡ max (origin_in b).block (greatest (effective_block (state_in b)) (take K (log_in b)))
  pub group : (origin_in left).group ≡ max (origin_in b).group (greatest group_of (take K (log_in b)))
  pub freed : length (messages_in left) + K ≡ length (messages_in b)
  pub kept : Kept (state_in b) (state_in left) K (log_in b) (log_in left)

module _ (S : State) (v : Valid S) (K : ℕ) (t : T (accepts_purge S K)) where
  abbrev R : State
  R = purge_first K S

  w : Valid R
  w = purge_valid S v K (accepts_purge_lem S K t).1

  held_same : held_in (image_of R) ≡ held_in (image_of S)
  held_same = held_back R w ∙ purge_held S v K ∙ sym (held_back S v)

  count : (T' : State) → Valid T' → length (messages_in (image_of T')) ≡ length T'.deltas
  count T' u = ap length (messages_back T' u) ∙ length-append (log_of T') (held_of T') ∙ log_held_length T' u.ascends

  -- the greatest purged block and group, of the states
  block_past : R.origin.block ≡ max S.origin.block (greatest (effective_block S) (take K (log_of S)))
  unfolding purge_first origin_past
  block_past = refl

  group_past : R.origin.group ≡ max S.origin.group (greatest group_of (take K (log_of S)))
  unfolding purge_first origin_past
  group_past = refl

  -- of an image its origin, its state and its log
  abbrev Read : Origin → State → List Message → Type 0
  Read O X l = ((origin_in (image_of R)).block ≡ max O.block (greatest (effective_block X) (take K l))) × ((origin_in (image_of R)).group ≡ max O.group (greatest group_of (take K l)))

  raised : Read (origin_in (image_of S)) (state_in (image_of S)) (log_in (image_of S))
  raised =
      subst (λ (O : Origin). Read O (state_in (image_of S)) (log_in (image_of S))) (sym (origin_back S v))
      (subst (λ (X : State). Read S.origin X (log_in (image_of S))) (sym (state_back S v))
      (subst (λ (l : List Message). Read S.origin S l) (sym (log_back S v))
      (ap (λ (O : Origin). O.block) (origin_back R w) ∙ block_past, ap (λ (O : Origin). O.group) (origin_back R w) ∙ group_past)))

  image_dropped : Dropped (image_of S) K (image_of R)
  unfolding start_values
  image_dropped = record {
    image = image_passes R w;
    log = log_back R w ∙ purge_log S v K ∙ ap (drop K) (sym (log_back S v));
    held = held_same;
    setpoints = values_back R w ∙ purge_setpoints S v K ∙ sym (values_back S v);
    base = ap (λ (O : Origin). O.base) (origin_back R w) ∙ purge_start K S
        ∙ ap₂ (λ (l : List Message) (O : Origin). run_log (take K l) O.base) (sym (log_back S v)) (sym (origin_back S v));
    block = raised.0;
    group = raised.1;
    freed = ap (λ (n : ℕ). n + K) (count R w) ∙ purge_count S v K (accepts_purge_lem S K t).0 ∙ sym (count S v);
    kept = subst (λ (l : List Message). Kept (state_in (image_of S)) (state_in (image_of R)) K l (log_in (image_of R))) (sym (log_back S v))
        (subst (λ (l : List Message). Kept (state_in (image_of S)) (state_in (image_of R)) K (log_of S) l) (sym (log_back R w ∙ purge_log S v K))
        (subst (λ (X : State). Kept X (state_in (image_of R)) K (log_of S) (drop K (log_of S))) (sym (state_back S v))
        (subst (λ (X : State). Kept S X K (log_of S) (drop K (log_of S))) (sym (state_back R w)) (state_kept S v K))));
  }

-- a purge that was answered with 0 was one of an image
purge_image : (b : List ℕ) (K : ℕ) → (purge b K).code ≡ 0 → T (is_image b)
purge_image b K e = ⊎_elim (λ t. t) (λ f.
    let image : true ≡ not (is_image b) = sym (is_true (not (is_image b)) f) in
    let met : 0 < (purge b K).code = ((purge_codes b K).lowest.least 2 (Memᴰ.tail (Memᴰ.head (ap (λ (t : Bool). (2, t)) image)))).0 in
    let z : ⊥ = omega (arith, met, e) in absurd z) (decide (is_image b))

pub purge_dropped : (b : List ℕ) (K : ℕ) (a : Purged) → a ≡ purge b K → a.code ≡ 0 → Dropped b K a.image
purge_dropped b K a is zero-code =
    subst (λ (x : List ℕ). Dropped x K a.image) (sym own) (subst (Dropped (image_of S) K) (sym left) (image_dropped S v K accepted))
  where
    i : T (is_image b)
    i = purge_image b K (ap (λ (x : Purged). x.code) (sym is) ∙ zero-code)

    S : State
    S = state_in b

    v : Valid S
    v = own_valid b i

    own : b ≡ image_of S
    own = image_own b i

    answer : a ≡ purge_answer (state_purge_code S K) S (image_of S) K
    answer = is ∙ ap (λ (x : List ℕ). purge x K) own ∙ purge_is S v K

    go : (n : ℕ) → (purge_answer n S (image_of S) K).code ≡ 0 → n ≡ 0
    go zero e = refl
    go (suc n) e = e

    none : state_purge_code S K ≡ 0
    none = go (state_purge_code S K) (ap (λ (x : Purged). x.code) (sym answer) ∙ zero-code)

    accepted : T (accepts_purge S K)
    accepted = (purge_code_zero S K).0 none

    left : a.image ≡ image_of (purge_first K S)
    left = ap (λ (x : Purged). x.image) (answer ∙ ap (λ (n : ℕ). purge_answer n S (image_of S) K) none)

-- A purge of none of an image is accepted, and leaves every byte.
none_accepts : (S : State) → length S.origin.floors ≤ most_floors → T (accepts_purge S 0)
unfolding accepts_purge
none_accepts S few =
    and_i (not (exceeds_log S 0)) (not (many_floors S 0)) (not_T (exceeds_log S 0) (λ t. let z : length (log_of S) < 0 = ltb→lt (length (log_of S)) 0 t in omega arith))
    (not_T (many_floors S 0) (λ t.
    let many : most_floors < length (purge_first 0 S).origin.floors = ltb→lt most_floors (length (purge_first 0 S).origin.floors) t in
    let same : length (purge_first 0 S).origin.floors ≡ length S.origin.floors = ap (λ (R : State). length R.origin.floors) (purge_none S) in
    omega arith))

none_accepted : (S : State) → Valid S → state_purge_code S 0 ≡ 0
none_accepted S v = (purge_code_zero S 0).1 (none_accepts S (few_floors S.origin v.right))

pub purge_of_none : (b : List ℕ) → T (is_image b) → purge b 0 ≡ record { code = 0; image = b }
purge_of_none b i =
    let S : State = state_in b in
    let v : Valid S = own_valid b i in
    ap (λ (x : List ℕ). purge x 0) (image_own b i) ∙ purge_is S v 0 ∙ ap (λ (n : ℕ). purge_answer n S (image_of S) 0) (none_accepted S v)
    ∙ ap (λ (x : List ℕ). record { code = 0; image = x }) (ap image_of (purge_none S) ∙ sym (image_own b i))

-- Purge on the image of a valid state is the plain station's answer, whose state stays valid.
pub purge_answer_law : (S : State) → Valid S → (K : ℕ) → CallFacts S (receive_purge S K) (purging K) (without_steps (purge (image_of S) K))
purge_answer_law S v K = call_facts S v (purging K) (without_steps (purge (image_of S) K)) refl

pub purge_station_law : (S : State) → Valid S → (K : ℕ) → Valid (receive_purge S K)
purge_station_law S v K = next_valid S v (purging K)

-- Of lists of deliveries alone, which are document 01's: equal accepted sets have one image.
pub equal_accepted_law : EqualAccepted Begins Answers
equal_accepted_law = equal_accepted Begins Answers agreement

-- A message whose sequence was purged "answers 0 with no step" after whatever later calls, and leaves every byte.
pub purged_again_law : (given : Given) (b : List ℕ) → Begins given b → (events : List Event) → Run Answers b events
    → (m : Message) (steps : List ℕ) → T (not (small_steps (length steps))) → T (passes m) → sequence_of m ∈ purged_after given events
    → deliver (image_after b events) m steps ≡ record { code = 0; undos = 0; executions = 0; image = image_after b events; steps = steps }
purged_again_law = purged_again
