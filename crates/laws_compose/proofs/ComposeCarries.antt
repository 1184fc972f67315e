-- That a composed message carries what the papers name: the proof of `compose_carries`.
use Rattle.std.specs.Prelude.{◌≡◌, refl, ◌↔◌, Bool, true, false, cond, not, ◌&&◌, List, [], ◌∷◌, ℕ, suc, ◌≤◌, ◌<◌, max, length, T, eqb, ltb, leb}
use Rattle.std.proofs.Common.{sym, ◌∙◌, ap, subst, ⊎_elim, arith, eqb→eq, ltb→lt, leb→le, lt→ltb, T_not}
use mathlib.Core.List.Memᴰ
use Rattle.std.proofs.Math.Dec.{not_T}
use Rattle.model.specs.Lists.{◌∈◌, has, some?, greatest, ascending}
use Rattle.model.specs.Bytes.{number}
use Rattle.model.specs.Message.{Message, sequence_of, group_of, line_of, number_of, predecessor_of}
use Rattle.model.specs.Listing as L
use Rattle.model.specs.Order.{State, sequences_of, needs, log_of}
use Rattle.model.specs.Image.{Valid, state_in}
use Rattle.model.specs.Compose.{new_sequence, unneeded, new_dependencies, last_sequence, group_after, new_group, new_block, composed}
use Rattle.model.specs.Codes.{compose_content}
use Rattle.model.specs.Calls.{compose}
use Rattle.laws_order.specs.TestLaws.{and_l, and_r, and_i, decide, not_eqb, has→∈, ∈→has, some_∈, ∈_some}
use Rattle.laws_state.specs.LogLaws.{log_received, log_grounded}
use Rattle.laws_compose.specs.ComposedMessage.{HasParts}
use Rattle.laws_compose.specs.ComposeFacts.{own_line, own_number, dependency_is, dependencies_ascend, unneeded_named}
use Rattle.laws_compose.specs.ComposeLaws.{Granted, valid, composed_parts, composed_above, message_by, compose_written, message_written, compose_granted}
use Rattle.laws_compose.specs.ComposedFields.{NeededByNone, Carries}

-- ---- the group, by its three cases
chosen : {A : Type 0} (b : Bool) (x y : A) → T b → cond b x y ≡ x
chosen true x y t = refl
chosen false x y t = absurd t

other : {A : Type 0} (b : Bool) (x y : A) → ¬ T b → cond b x y ≡ y
other true x y h = absurd (h tt)
other false x y h = refl

last_above : (group : ℕ) (log : List Message) (s : ℕ) → ¬ (log ≡ []) → s < last_sequence log → group_after group log s ≡ suc (max group (greatest group_of log))
last_above group [] s h k = absurd (h refl)
last_above group (m ∷ l) s h k = chosen (ltb s (last_sequence (m ∷ l))) _ _ (lt→ltb s (last_sequence (m ∷ l)) k)

last_not_above : (group : ℕ) (log : List Message) (s : ℕ) → ¬ (log ≡ []) → ¬ (s < last_sequence log) → group_after group log s ≡ max group (greatest group_of log)
last_not_above group [] s h k = absurd (h refl)
last_not_above group (m ∷ l) s h k = other (ltb s (last_sequence (m ∷ l))) _ _ (λ t. k (ltb→lt s (last_sequence (m ∷ l)) t))

-- ---- the flag is 0 or 1
flag_is : (flag : ℕ) → flag ≤ 1 → cond (eqb flag 1) 1 0 ≡ flag
flag_is flag h = go (eqb flag 1) (eqb→eq flag 1) (not_eqb flag 1)
  where
    go : (b : Bool) → (T b → flag ≡ 1) → (T (not b) → ¬ (flag ≡ 1)) → cond b 1 0 ≡ flag
    go true f g = sym (f tt)
    go false f g = let n : ¬ (flag ≡ 1) = g tt in omega arith

module _ (b line commands : List ℕ) (flag priority room : ℕ) (g : Granted b line commands flag priority room) where
  abbrev S : State
  S = state_in b

  abbrev own : ℕ
  own = new_sequence S (number line)

  abbrev message : Message
  message = composed S (number line) commands (eqb flag 1) priority

  right : Valid S
  right = valid b line commands flag priority room g

  -- ---- the dependencies
  -- a log delta does not need itself
  not_own : (m : Message) → m ∈ log_of S → ¬ (sequence_of m ∈ needs S m)
  not_own m k j = ((log_grounded S right.ascends m (log_received S right.ascends m k)).0 k).no_ring (L.needed j)

  needed_by_none : (d : ℕ) → T (unneeded S d) → NeededByNone S d
  needed_by_none d t = record {
    logged = has→∈ d (sequences_of (log_of S)) (and_l (has d (sequences_of (log_of S))) (not (some? (λ m. has d (needs S m)) (log_of S))) t);
    others = λ m k n j. T_not (some? (λ x. has d (needs S x)) (log_of S)) (and_r (has d (sequences_of (log_of S))) (not (some? (λ x. has d (needs S x)) (log_of S))) t)
        (∈_some (λ x. has d (needs S x)) (log_of S) m k (∈→has j));
  }

  none_needs : (d : ℕ) → NeededByNone S d → T (unneeded S d)
  none_needs d h = and_i (has d (sequences_of (log_of S))) (not (some? (λ x. has d (needs S x)) (log_of S))) (∈→has h.logged)
      (not_T (some? (λ x. has d (needs S x)) (log_of S)) (λ t. let r = some_∈ (λ x. has d (needs S x)) (log_of S) t in
      needing r.0 r.1 (has→∈ d (needs S r.0) r.2)))
    where
      needing : (m : Message) → m ∈ log_of S → d ∈ needs S m → ⊥
      needing m k j = ⊎_elim (λ t. not_own m k (Memᴰ.cast (eqb→eq (sequence_of m) d t) j)) (λ t. h.others m k (not_eqb (sequence_of m) d t) j) (decide (eqb (sequence_of m) d))

  dependencies_are : (d : ℕ) → (d ∈ new_dependencies S own) ↔ (NeededByNone S d × ¬ (d ∈ predecessor_of own))
  dependencies_are d = (
    λ k. let c : T (unneeded S d && not (has d (predecessor_of own))) = (dependency_is S right (number line) g.free g.number_small d k).1 in (
      needed_by_none d (and_l (unneeded S d) (not (has d (predecessor_of own))) c),
      λ j. T_not (has d (predecessor_of own)) (and_r (unneeded S d) (not (has d (predecessor_of own))) c) (∈→has j),
    ),
    λ r. ⊎_elim (λ j. absurd (r.1 j)) (λ j. j) (unneeded_named S right (number line) g.free g.number_small d (none_needs d r.0)),
  )

  carries : Carries S line commands flag priority message
  carries = record {
    on_line = ap line_of made.sequence ∙ own_line S right (number line) g.free g.number_small;
    next_number = ap number_of made.sequence ∙ own_number S right (number line) g.free g.number_small;
    above_floor = composed_above b line commands flag priority room g;
    dependencies = λ d. subst (λ (l : List ℕ). (d ∈ l) ↔ (NeededByNone S d × ¬ (d ∈ predecessor_of (sequence_of message)))) (sym made.dependencies)
        (subst (λ (s : ℕ). (d ∈ new_dependencies S own) ↔ (NeededByNone S d × ¬ (d ∈ predecessor_of s))) (sym made.sequence) (dependencies_are d));
    dependencies_ascend = subst (λ (l : List ℕ). T (ascending l)) (sym made.dependencies) (dependencies_ascend S right (number line) g.free g.number_small);
    group_first = λ e. made.group_is ∙ ap (λ (l : List Message). group_after S.origin.group l own) e;
    group_raised = λ n h. made.group_is ∙ last_above S.origin.group (log_of S) own n (subst (λ (s : ℕ). s < last_sequence (log_of S)) made.sequence h);
    group_kept = λ n h. made.group_is ∙ last_not_above S.origin.group (log_of S) own n (λ k. h (subst (λ (s : ℕ). s < last_sequence (log_of S)) (sym made.sequence) k));
    block = λ e. made.block_is ∙ ap (λ (n : ℕ). new_block S (eqb n 1)) e;
    no_block = λ e. made.block_is ∙ ap (λ (n : ℕ). new_block S (eqb n 1)) e;
    flag_carried = made.flag_byte ∙ flag_is flag flag_small;
    priority_carried = made.priority_is;
    commands_carried = made.commands_behind;
  }
    where
      made : HasParts (eqb flag 1) own (new_group S own) (new_block S (eqb flag 1)) priority (new_dependencies S own) commands message
      made = composed_parts b line commands flag priority room g

      flag_small : flag ≤ 1
      flag_small =
          let t : T (compose_content commands flag priority) = g.content in
          let h : T (leb flag 1) = search (and_l, and_r) depth 6 in leb→le flag 1 h

-- ---- of what compose answers
pub compose_carries : (b line commands : List ℕ) (flag priority : ℕ) (buffer : List ℕ) → (compose b line commands flag priority buffer).code ≡ 0
    → Carries (state_in b) line commands flag priority (message_by (compose b line commands flag priority buffer))
compose_carries b line commands flag priority buffer e =
    let m : Message = composed (state_in b) (number line) commands (eqb flag 1) priority in
    subst (Carries (state_in b) line commands flag priority) (sym (ap message_by (compose_written b line commands flag priority buffer e) ∙ message_written m buffer))
    (carries b line commands flag priority (length buffer) (compose_granted b line commands flag priority buffer e))
