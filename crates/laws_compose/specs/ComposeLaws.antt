-- Compose: what it hands out passes 3 to 6, and delivered to the image that it was composed on it is accepted with no undo,
-- its execution the first step.
use Rattle.std.specs.Prelude.{◌≡◌, ◌⊎◌, Bool, true, false, ◌&&◌, ◌||◌, ℕ, zero, suc, ◌+◌, ◌-◌, ◌/◌, ◌^◌, ◌≤◌, ◌<◌, take, drop, ltb}
use Rattle.std.proofs.Math.Path.{refl, ap₂, subst}
use Rattle.std.proofs.Common.{sym, ◌∙◌, ap, inl, inr, ⊎_elim, suc-ne-zero, take_at, eqb→eq, nltb→le, le→leb}
use Rattle.std.proofs.Math.Bool.{not}
use Rattle.std.proofs.Math.Option.{some}
use mathlib.Core.List.Memᴰ
use mathlib.Core.List.{List, [], ◌∷◌, ◌++◌, map, map-append}
use native.Mathlib.Omega.{arith}
use Rattle.std.proofs.Math.ListN.{length}
use Rattle.std.proofs.Math.Dec.{T, eqb, leb, ltb→lt, leb→le, nleb→lt, not_T}
use Rattle.model.specs.Lists.{◌∈◌, has, every, some?, keep}
use Rattle.model.specs.Bytes.{is_bytes, number, parts}
use Rattle.model.specs.Layout.{image_size, step_room, message_room, line_size, sequence_size, numbers_of_line, command_size, most_dependencies, field_limit, capacity}
use Rattle.model.specs.Message.{Message, sequence_of, predecessor_of, command_right, block_right, passes}
use Rattle.model.specs.Order.{State, purged, add, insert, Ascending, sequences_of, needs, placed_by, key_of, less, log_of}
use Rattle.model.specs.Image.{image_of, Valid, state_in, is_image}
use Rattle.model.specs.Steps.{Step, execute, common, steps_of, undos_of, read_steps}
use Rattle.model.specs.Compose.{new_number, new_sequence, unneeded, new_dependencies, new_group, new_block, composed}
use Rattle.model.specs.Codes.{compose_conditions, commands_sized, compose_content, held_on, small_steps, conflicts, full, present}
use Rattle.model.specs.Calls.{Composed, compose_answer, compose_code, compose, deliver}
use Rattle.model.specs.PlainStation.{accepts, receive}
use Rattle.model_runs.specs.Run.{delivery, CallAgrees}
use Rattle.laws_order.specs.TestLaws.{and_l, and_r, and_i, nor_l, nor_r, decide, has→∈, ∈→has, keep_∈, ∈_keep, some_∈}
use Rattle.laws_order.specs.KeyOrder.{less_total}
use Rattle.laws_order.specs.ListingLaws.{after_has}
use Rattle.laws_order.specs.Extension.{extends}
use Rattle.laws_order.specs.StepLaws.{common_longer, steps_longer}
use Rattle.laws_state.specs.SetLaws.{ascending_names, insert_from, insert_keeps, insert_has, insert_ascending}
use Rattle.laws_state.specs.LogLaws.{Logged, keys_differ, log_received}
use Rattle.laws_state.specs.EffectiveLaws.{keys_agree}
use Rattle.laws_wire.specs.MessageLaws.{sequence_range}
use Rattle.laws_wire.specs.BytesLaws.{number_range}
use Rattle.laws_state.specs.ImageLaws.{log_passes, image_own, own_valid}
use Rattle.laws_state.specs.CodeLaws.{compose_code_lem}
use Rattle.laws_state.specs.DeliverLaws.{code_zero, receive_accepted, take_in_above}
use Rattle.laws_run.specs.LateCalls.{steps_between}
use Rattle.laws_run.specs.CallRuns.{call_facts}
use Rattle.laws_codes.specs.Ladder.{all_free, not_not}
use Rattle.laws_compose.specs.ComposedMessage.{HasParts, Parts, made_parts, made_passes}
use Rattle.laws_compose.specs.ComposeFacts.{own_numbered, own_new, own_above, predecessor_logged, dependency_logged, dependencies_ascend, dependencies_numbered, dependencies_other, dependencies_not_predecessor, unneeded_named}

-- ---- a delta that needs every logged delta that none needs, and nothing that is not logged: the log goes on with it
module _ (S : State) (ascends : Ascending S.deltas) (m : Message) (fresh : (a : Message) → a ∈ S.deltas → sequence_of m ≡ sequence_of a → ⊥) where
  covers : ((s : ℕ) → T (unneeded S s) → s ∈ needs S m)
      → (a : Message) → a ∈ log_of S → (sequence_of a ∈ needs S m) ⊎ ((b : Message) × (b ∈ log_of S) × (sequence_of a ∈ needs S b))
  covers all a k = ⊎_elim (λ t. inr (needed t))
      (λ t. inl (all (sequence_of a) (and_i (has (sequence_of a) (sequences_of (log_of S))) (not (some? (λ x. has (sequence_of a) (needs S x)) (log_of S))) (∈→has (Memᴰ.map sequence_of k)) t)))
      (decide (some? (λ x. has (sequence_of a) (needs S x)) (log_of S)))
    where
      needed : T (some? (λ x. has (sequence_of a) (needs S x)) (log_of S)) → (b : Message) × (b ∈ log_of S) × (sequence_of a ∈ needs S b)
      needed t = let r = some_∈ (λ x. has (sequence_of a) (needs S x)) (log_of S) t in (r.0, r.1, has→∈ (sequence_of a) (needs S r.0) r.2)

  pub log_extends : ((s : ℕ) → s ∈ needs S m → Logged S s) → ((s : ℕ) → T (unneeded S s) → s ∈ needs S m)
      → (rest : List Message) × (log_of (add m S) ≡ log_of S ++ m ∷ rest)
  unfolding log_of needs
  log_extends needed all =
      extends sequence_of (needs S) less less_total (key_of S) (key_of (add m S)) S.deltas (insert m S.deltas) m (ascending_names S.deltas ascends) (keys_differ S ascends)
      (keys_differ (add m S) (insert_ascending m S.deltas ascends))
      (insert_has m S.deltas (λ x k e. absurd (fresh x k e))) (λ a k. insert_keeps m S.deltas a k) (λ a k. insert_from m S.deltas a k)
      (keys_agree S (add m S) refl ascends (insert_ascending m S.deltas ascends) (insert_keeps m S.deltas)) (λ s k. let r = needed s k in subst (λ (t : ℕ). t ∈ placed_by (log_of S)) r.2 (after_has sequence_of (log_of S) [] r.1))
      (λ a k e. fresh a (log_received S ascends a k) (sym e)) (covers all)

-- ---- what code 0 says of compose's arguments
pub record Granted (b line commands : List ℕ) (flag priority room : ℕ) : Type 0 where
  pub line_bytes : T (is_bytes line)
  pub line_length : length line ≡ line_size
  pub image : T (is_image b)
  pub sized : T (commands_sized commands)
  pub content : T (compose_content commands flag priority)
  pub free : T (not (held_on (state_in b) (number line)))
  pub number_small : new_number (state_in b) (number line) < numbers_of_line
  pub group_small : new_group (state_in b) (new_sequence (state_in b) (number line)) ≤ field_limit
  pub block_small : new_block (state_in b) (eqb flag 1) ≤ field_limit
  pub few : length (new_dependencies (state_in b) (new_sequence (state_in b) (number line))) ≤ most_dependencies

granted : (b line commands : List ℕ) (flag priority room : ℕ) → compose_code b line commands flag priority room ≡ 0 → Granted b line commands flag priority room
unfolding compose_code
granted b line commands flag priority room q =
    let S = state_in b in
    let s = new_sequence S (number line) in
    let h = all_free (compose_conditions b line commands flag priority room) (omega arith) q in
    let late = h.1.1.1.1 in
    let l : T (is_bytes line && eqb (length line) line_size) =
    not_not (is_bytes line && eqb (length line) line_size) (nor_r (not (eqb (length b) image_size) || ltb room message_room) (not (is_bytes line && eqb (length line) line_size)) h.0) in
    let n : T (not (leb numbers_of_line (new_number S (number line)) || ltb field_limit (new_group S s))) =
    nor_l (leb numbers_of_line (new_number S (number line)) || ltb field_limit (new_group S s)) (ltb field_limit (new_block S (eqb flag 1))) late.1.0 in
    record {
      line_bytes = and_l (is_bytes line) (eqb (length line) line_size) l;
      line_length = eqb→eq (length line) line_size (and_r (is_bytes line) (eqb (length line) line_size) l);
      image = not_not (is_image b) h.1.0;
      sized = not_not (commands_sized commands) h.1.1.0;
      content = not_not (compose_content commands flag priority) h.1.1.1.0;
      free = late.0;
      number_small = nleb→lt numbers_of_line (new_number S (number line)) (nor_l (leb numbers_of_line (new_number S (number line))) (ltb field_limit (new_group S s)) n);
      group_small = nltb→le field_limit (new_group S s) (nor_r (leb numbers_of_line (new_number S (number line))) (ltb field_limit (new_group S s)) n);
      block_small = nltb→le field_limit (new_block S (eqb flag 1)) (nor_r (leb numbers_of_line (new_number S (number line)) || ltb field_limit (new_group S s)) (ltb field_limit (new_block S (eqb flag 1))) late.1.0);
      few = nltb→le most_dependencies (length (new_dependencies S s)) late.1.1.0;
    }

module _ (b line commands : List ℕ) (flag priority room : ℕ) (g : Granted b line commands flag priority room) where
  abbrev S : State
  S = state_in b

  abbrev own : ℕ
  own = new_sequence S (number line)

  abbrev message : Message
  message = composed S (number line) commands (eqb flag 1) priority

  pub valid : Valid S
  valid = own_valid b g.image

  priority_fits : priority ≤ field_limit
  priority_fits =
      let t : T (compose_content commands flag priority) = g.content in
      let h : T (leb priority field_limit) = search (and_l, and_r) depth 6 in leb→le priority field_limit h

  parts_right : Parts (eqb flag 1) own (new_group S own) (new_block S (eqb flag 1)) priority (new_dependencies S own) commands
  parts_right = record {
    sequence_fits =
        let h : number line < 256 ^ 10 = subst (λ (n : ℕ). number line < 256 ^ n) g.line_length (number_range line g.line_bytes) in
        let k : new_number S (number line) < 65536 = g.number_small in
        omega arith;
    group_fits = g.group_small;
    block_fits = g.block_small;
    priority_fits = priority_fits;
    few = g.few;
    deps_fit = λ d k. let r = dependency_logged S valid (number line) g.free g.number_small d k in
        subst (λ (n : ℕ). n < 256 ^ sequence_size) r.2 (sequence_range r.0 (log_passes S valid r.0 r.1));
    commands_sized_lem = g.sized;
  }

  block_right_lem : T (block_right (eqb flag 1) (new_block S (eqb flag 1)) priority)
  block_right_lem =
      let t : T (compose_content commands flag priority) = g.content in
      let h : T (eqb flag 1 || eqb priority 0) = search (and_l, and_r) depth 6 in go (eqb flag 1) h
    where
      go : (f : Bool) → T (f || eqb priority 0) → T (block_right f (new_block S f) priority)
      go true h = le→leb 1 (new_block S true) (omega arith)
      go false h = h

  -- it passes 3 to 6
  pub composed_passes : T (passes message)
  unfolding composed
  composed_passes =
      let t : T (compose_content commands flag priority) = g.content in
      made_passes (eqb flag 1) own (new_group S own) (new_block S (eqb flag 1)) priority (new_dependencies S own) commands parts_right
      (own_numbered S valid (number line) g.free g.number_small) (dependencies_numbered S valid (number line) g.free g.number_small)
      (dependencies_ascend S valid (number line) g.free g.number_small) (dependencies_other S valid (number line) g.free g.number_small)
      (dependencies_not_predecessor S valid (number line) g.free g.number_small) block_right_lem
      (and_r (leb flag 1 && leb priority field_limit && (eqb flag 1 || eqb priority 0)) (every command_right (parts (length commands / command_size) command_size commands)) t)

  pub composed_parts : HasParts (eqb flag 1) own (new_group S own) (new_block S (eqb flag 1)) priority (new_dependencies S own) commands message
  unfolding composed
  composed_parts = made_parts (eqb flag 1) own (new_group S own) (new_block S (eqb flag 1)) priority (new_dependencies S own) commands parts_right

  -- it needs its predecessor and its dependencies, as far as they are above their floors
  composed_needs : needs S message ≡ keep (λ s. not (purged S s)) (predecessor_of own ++ new_dependencies S own)
  unfolding needs
  composed_needs = ap₂ (λ (s : ℕ) (d : List ℕ). keep (λ x. not (purged S x)) (predecessor_of s ++ d)) composed_parts.sequence composed_parts.dependencies

  -- it is above its line's floor
  pub composed_above : T (not (purged S (sequence_of message)))
  composed_above = subst (λ (s : ℕ). T (not (purged S s))) (sym composed_parts.sequence) (own_above S valid (number line) g.free g.number_small)

  composed_new : (a : Message) → a ∈ S.deltas → sequence_of message ≡ sequence_of a → ⊥
  composed_new a k e = own_new S valid (number line) g.free g.number_small a k (sym composed_parts.sequence ∙ e)

  -- the log goes on with it
  pub composed_extends : (rest : List Message) × (log_of (add message S) ≡ log_of S ++ message ∷ rest)
  composed_extends = log_extends S valid.ascends message composed_new needed all
    where
      needed : (s : ℕ) → s ∈ needs S message → Logged S s
      needed s k =
          let h = keep_∈ (λ x. not (purged S x)) (predecessor_of own ++ new_dependencies S own) (subst (λ (l : List ℕ). s ∈ l) composed_needs k) in
          ⊎_elim (λ j. predecessor_logged S valid (number line) g.free g.number_small s j h.1) (dependency_logged S valid (number line) g.free g.number_small s)
          (Memᴰ.append_cases (predecessor_of own) h.0)

      -- what is logged is above its floor
      high : (s : ℕ) → T (unneeded S s) → T (not (purged S s))
      high s t =
          let h : T (has s (sequences_of (log_of S))) = and_l (has s (sequences_of (log_of S))) (not (some? (λ m. has s (needs S m)) (log_of S))) t in
          let r = Memᴰ.of_map sequence_of (log_of S) (has→∈ s (sequences_of (log_of S)) h) in
          subst (λ (x : ℕ). T (not (purged S x))) r.2 (valid.above r.0 (log_received S valid.ascends r.0 r.1))

      all : (s : ℕ) → T (unneeded S s) → s ∈ needs S message
      all s t = subst (λ (l : List ℕ). s ∈ l) (sym composed_needs)
          (∈_keep (λ x. not (purged S x)) (⊎_elim (λ k. Memᴰ.append_left (new_dependencies S own) k) (λ k. Memᴰ.append_right (predecessor_of own) k) (unneeded_named S valid (number line) g.free g.number_small s t)) (high s t))

  -- delivered where fewer than 64 are, it is accepted
  pub composed_accepted : length S.deltas < capacity → (room' : ℕ) → step_room ≤ room' → T (accepts S message room')
  unfolding accepts
  composed_accepted h room' r =
      let a : T (not (small_steps room')) = not_T (small_steps room') (λ t. let k : room' < step_room = ltb→lt room' step_room t in let z : ⊥ = omega arith in absurd z) in
      let c : T (passes message) = composed_passes in
      let d : T (not (conflicts S message)) = not_T (conflicts S message) (λ t. new (and_r (not (purged S (sequence_of message))) (present S (sequence_of message)) (and_l (not (purged S (sequence_of message)) && present S (sequence_of message)) _ t))) in
      let e : T (not (full S message)) = not_T (full S message) (λ t. let k : capacity ≤ length S.deltas = leb→le capacity (length S.deltas) (and_r (not (purged S (sequence_of message))) (leb capacity (length S.deltas)) (and_l (not (purged S (sequence_of message)) && leb capacity (length S.deltas)) (not (present S (sequence_of message))) t)) in let z : ⊥ = omega arith in absurd z) in
      search and_i depth 6
    where
      new : T (present S (sequence_of message)) → ⊥
      new t = let r = Memᴰ.of_map sequence_of S.deltas (has→∈ (sequence_of message) (sequences_of S.deltas) t) in composed_new r.0 r.1 (sym r.2)

  -- the log that it was composed on is kept, and it is executed first
  pub composed_steps : (rest : List Step) × (steps_of (sequences_of (log_of S)) (sequences_of (log_of (add message S))) ≡ execute (sequence_of message) ∷ rest)
  composed_steps =
      let r = composed_extends in (
        map execute (sequences_of r.0),
        ap (λ (l : List Message). steps_of (sequences_of (log_of S)) (sequences_of l)) r.1
            ∙ ap (steps_of (sequences_of (log_of S))) (map-append sequence_of (log_of S) (message ∷ r.0)) ∙ steps_longer (sequences_of (log_of S)) (sequence_of message ∷ sequences_of r.0),
      )

  pub composed_undos : undos_of (sequences_of (log_of S)) (sequences_of (log_of (add message S))) ≡ 0
  composed_undos =
      let r = composed_extends in
      let e : sequences_of (log_of (add message S)) ≡ sequences_of (log_of S) ++ sequence_of message ∷ sequences_of r.0 =
      ap sequences_of r.1 ∙ map-append sequence_of (log_of S) (message ∷ r.0) in
      ap (λ (l : List ℕ). length (sequences_of (log_of S)) - common (sequences_of (log_of S)) l) e
      ∙ omega (arith, common_longer (sequences_of (log_of S)) (sequence_of message ∷ sequences_of r.0))

-- ---- what code 0 says of the answer: the message stands at the front of the buffer, and the rest is unchanged
abbrev pub message_by : Composed → Message
message_by a = take a.size a.message

pub compose_written : (b line commands : List ℕ) (flag priority : ℕ) (buffer : List ℕ) → (compose b line commands flag priority buffer).code ≡ 0
    → compose b line commands flag priority buffer ≡ compose_answer 0 (composed (state_in b) (number line) commands (eqb flag 1) priority) buffer
unfolding compose
compose_written b line commands flag priority buffer = go (compose_code b line commands flag priority (length buffer))
  where
    m : Message
    m = composed (state_in b) (number line) commands (eqb flag 1) priority

    go : (n : ℕ) → (compose_answer n m buffer).code ≡ 0 → compose_answer n m buffer ≡ compose_answer 0 m buffer
    go zero e = refl
    go (suc n) e = absurd (suc-ne-zero n e)

pub message_written : (m : Message) (buffer : List ℕ) → message_by (compose_answer 0 m buffer) ≡ m
message_written m buffer = take_at m (drop (length m) buffer) (length m) refl

pub compose_granted : (b line commands : List ℕ) (flag priority : ℕ) (buffer : List ℕ) → (compose b line commands flag priority buffer).code ≡ 0
    → Granted b line commands flag priority (length buffer)
unfolding compose_code
compose_granted b line commands flag priority buffer e =
    granted b line commands flag priority (length buffer) (sym (compose_code_lem b line commands flag priority buffer) ∙ e)

-- ---- the promise
pub record Promised (b m : List ℕ) : Type 0 where
  pub passes_all : T (passes m)
  -- "Delivered to the image it was composed on, if that holds fewer than 64, the result is accepted with no undo,
  -- and its execution is the first step."
  pub accepted : length (state_in b).deltas < capacity → (steps : List ℕ) → step_room ≤ length steps → (deliver b m steps).code ≡ 0
  pub no_undo : length (state_in b).deltas < capacity → (steps : List ℕ) → step_room ≤ length steps → (deliver b m steps).undos ≡ 0
  pub first_step : length (state_in b).deltas < capacity → (steps : List ℕ) → step_room ≤ length steps
      → (rest : List Step) × (read_steps ((deliver b m steps).undos + (deliver b m steps).executions) (deliver b m steps).steps ≡ some (execute (sequence_of m) ∷ rest))

granted_promise : (b line commands : List ℕ) (flag priority room : ℕ) → Granted b line commands flag priority room
    → Promised b (composed (state_in b) (number line) commands (eqb flag 1) priority)
granted_promise b line commands flag priority room g = record {
  passes_all = composed_passes b line commands flag priority room g;
  accepted = λ h steps r. (facts steps).accepted.1 (takes h steps r);
  no_undo = λ h steps r. (facts steps).undos ∙ ap (λ (R : State). undos_of (sequences_of (log_of S')) (sequences_of (log_of R))) (added h steps r) ∙ composed_undos b line commands flag priority room g;
  first_step = λ h steps r. let w = composed_steps b line commands flag priority room g in
      (w.0, steps_between S' (receive S' m (length steps)) (delivery m steps) (deliver b m steps) (facts steps).records ∙ ap some (ap (λ (R : State). steps_of (sequences_of (log_of S')) (sequences_of (log_of R))) (added h steps r) ∙ w.1));
}
  where
    S' : State
    S' = state_in b

    m : Message
    m = composed S' (number line) commands (eqb flag 1) priority

    is : b ≡ image_of S'
    is = image_own b g.image

    facts : (steps : List ℕ) → CallAgrees S' (receive S' m (length steps)) (image_of S') (delivery m steps) (deliver b m steps)
    facts steps = (call_facts S' (valid b line commands flag priority room g) (delivery m steps) (deliver b m steps) (ap (λ (i : List ℕ). deliver i m steps) is)).agrees

    takes : length S'.deltas < capacity → (steps : List ℕ) → step_room ≤ length steps → T (accepts S' m (length steps))
    takes h steps r = composed_accepted b line commands flag priority room g h (length steps) r

    added : length S'.deltas < capacity → (steps : List ℕ) → step_room ≤ length steps → receive S' m (length steps) ≡ add m S'
    added h steps r =
        receive_accepted S' m (length steps) ((code_zero S' m (length steps)).1 (takes h steps r))
        ∙ take_in_above m S' (composed_above b line commands flag priority room g)

pub compose_promise : (b line commands : List ℕ) (flag priority : ℕ) (buffer : List ℕ) → (compose b line commands flag priority buffer).code ≡ 0
    → Promised b (message_by (compose b line commands flag priority buffer))
compose_promise b line commands flag priority buffer e =
    let m : Message = composed (state_in b) (number line) commands (eqb flag 1) priority in
    subst (Promised b) (sym (ap message_by (compose_written b line commands flag priority buffer e) ∙ message_written m buffer))
    (granted_promise b line commands flag priority (length buffer) (compose_granted b line commands flag priority buffer e))
