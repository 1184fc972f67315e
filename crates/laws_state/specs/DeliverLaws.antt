-- Deliver on the image of a valid state is the plain station's answer, and the plain station's state stays valid; what is at or below a
-- floor changes nothing.
use Rattle.std.specs.Prelude.{◌≡◌, refl, ◌⊎◌, ◌↔◌, Bool, true, cond, not, ◌&&◌, ◌||◌, List, [], ◌∷◌, ◌++◌, ℕ, length, T, eqb, leb}
use Rattle.std.proofs.Common.{sym, ◌∙◌, subst, inl, inr, ⊎_elim, arith, suc-ne-zero}
use Rattle.std.proofs.Math.Path.{ap, ap₂}
use Rattle.std.proofs.Math.Bool.{false}
use mathlib.Core.List.Memᴰ
use Rattle.std.proofs.Math.Dec.{nleb→lt}
use Rattle.model.specs.Lists.{◌∈◌, same}
use Rattle.model.specs.Layout.{image_size, capacity}
use Rattle.model.specs.Message.{Message, sequence_of, layout_right, numbers_right, dependencies_right, content_right, passes}
use Rattle.model.specs.Order.{State, purged, add, take_in, find, sequences_of, log_of}
use Rattle.model.specs.Setpoints.{start_values}
use Rattle.model.specs.Image.{image_of, Valid, state_in, is_image}
use Rattle.model.specs.Steps.{StepRecord, records_bytes}
use Rattle.model.specs.Codes.{Conditions, lowest_code, message_conditions, small_steps, present, conflicts, full}
use Rattle.model.specs.Calls.{written, accepted_answer, deliver_answer, deliver_code, deliver}
use Rattle.model.specs.PlainStation.{accepts, receive}
use Rattle.laws_order.specs.TestLaws.{is_true, is_false, and_l, and_r, and_i, decide, has→∈, ∈→has, same→eq}
use Rattle.laws_order.specs.StepLaws.{undos_self}
use Rattle.laws_wire.specs.RecordLaws.{records_self}
use Rattle.laws_state.specs.SetLaws.{insert_ascending, insert_from, insert_keeps, insert_length, insert_there, find_here}
use Rattle.laws_state.specs.ImageLaws.{state_back, image_size_lem, image_passes}

-- ---- the code that a state gives
abbrev pub state_conditions : State → Message → ℕ → Conditions
state_conditions S m room = (1, small_steps room) ∷ (2, false) ∷ message_conditions m ++ (7, conflicts S m) ∷ (8, full S m) ∷ []

unfoldable pub state_code : State → Message → ℕ → ℕ
state_code S m room = lowest_code (state_conditions S m room)

-- the code, from whether 1 and 2 apply to the image
abbrev code_with : Message → ℕ → Bool → Bool → State → ℕ
code_with m room size image R =
    lowest_code ((1, size || small_steps room) ∷ (2, not image) ∷ message_conditions m ++ (7, conflicts R m) ∷ (8, full R m) ∷ [])

module _ (S : State) (valid : Valid S) where
  pub deliver_code_is : (m : Message) (room : ℕ) → deliver_code (image_of S) m room ≡ state_code S m room
  unfolding deliver_code state_code
  deliver_code_is m room =
      ap (λ (n : ℕ). code_with m room (not (eqb n image_size)) (is_image (image_of S)) (state_in (image_of S))) (image_size_lem S valid)
      ∙ ap (λ (c : Bool). code_with m room false c (state_in (image_of S))) (is_true (is_image (image_of S)) (image_passes S valid))
      ∙ ap (code_with m room false true) (state_back S valid)

  pub deliver_is : (m : Message) (steps : List ℕ)
      → deliver (image_of S) m steps ≡ deliver_answer (state_code S m (length steps)) S (image_of S) m steps
  unfolding deliver
  deliver_is m steps =
      ap₂ (λ (n : ℕ) (R : State). deliver_answer n R (image_of S) m steps) (deliver_code_is m (length steps)) (state_back S valid)

-- ---- it is 0 exactly where the plain station accepts
zero_exactly : (a l n d c x f : Bool)
    → (◌≡◌ {A = ℕ} (cond a 1 (cond (not l) 3 (cond (not n) 4 (cond (not d) 5 (cond (not c) 6 (cond x 7 (cond f 8 0))))))) 0)
    ↔ T (not a && (l && n && d && c) && not x && not f)
zero_exactly true l n d c x f = (λ e. absurd (suc-ne-zero 0 e), λ t. absurd t)
zero_exactly false false n d c x f = (λ e. absurd (suc-ne-zero 2 e), λ t. absurd t)
zero_exactly false true false d c x f = (λ e. absurd (suc-ne-zero 3 e), λ t. absurd t)
zero_exactly false true true false c x f = (λ e. absurd (suc-ne-zero 4 e), λ t. absurd t)
zero_exactly false true true true false x f = (λ e. absurd (suc-ne-zero 5 e), λ t. absurd t)
zero_exactly false true true true true true f = (λ e. absurd (suc-ne-zero 6 e), λ t. absurd t)
zero_exactly false true true true true false true = (λ e. absurd (suc-ne-zero 7 e), λ t. absurd t)
zero_exactly false true true true true false false = (λ e. tt, λ t. refl)

pub code_zero : (S : State) (m : Message) (room : ℕ) → (state_code S m room ≡ 0) ↔ T (accepts S m room)
unfolding state_code accepts passes
code_zero S m room = zero_exactly (small_steps room) (layout_right m) (numbers_right m) (dependencies_right m) (content_right m) (conflicts S m) (full S m)

pub receive_refused : (S : State) (m : Message) (room : ℕ) → ¬ (state_code S m room ≡ 0) → receive S m room ≡ S
unfolding receive
receive_refused S m room h = go (accepts S m room) (λ t. h ((code_zero S m room).1 t))
  where
    go : (b : Bool) → (T b → ⊥) → cond b (take_in m S) S ≡ S
    go true f = absurd (f tt)
    go false f = refl

pub receive_accepted : (S : State) (m : Message) (room : ℕ) → state_code S m room ≡ 0 → receive S m room ≡ take_in m S
unfolding receive
receive_accepted S m room e = go (accepts S m room) ((code_zero S m room).0 e)
  where
    go : (b : Bool) → T b → cond b (take_in m S) S ≡ take_in m S
    go true t = refl
    go false t = absurd t

-- ---- an accepted message joins the set, or nothing does
pub take_in_purged : (m : Message) (S : State) → T (purged S (sequence_of m)) → take_in m S ≡ S
unfolding take_in
take_in_purged m S t = ap (λ (b : Bool). cond b S (add m S)) (is_true (purged S (sequence_of m)) t)

pub take_in_above : (m : Message) (S : State) → T (not (purged S (sequence_of m))) → take_in m S ≡ add m S
unfolding take_in
take_in_above m S t = ap (λ (b : Bool). cond b S (add m S)) (is_false (purged S (sequence_of m)) t)

-- what holds of both states holds of the one that is left
take_in_either : (P : State → Type 0) (m : Message) (S : State) → P S → (T (not (purged S (sequence_of m))) → P (add m S)) → P (take_in m S)
take_in_either P m S p q =
    ⊎_elim (λ t. subst P (sym (take_in_purged m S t)) p) (λ t. subst P (sym (take_in_above m S t)) (q t)) (decide (purged S (sequence_of m)))

pub take_in_origin : (m : Message) (S : State) → (take_in m S).origin ≡ S.origin
take_in_origin m S = take_in_either (λ (R : State). R.origin ≡ S.origin) m S refl (λ t. refl)

pub take_in_keeps : (m : Message) (S : State) (x : Message) → x ∈ S.deltas → x ∈ (take_in m S).deltas
take_in_keeps m S x k = take_in_either (λ (R : State). x ∈ R.deltas) m S k (λ t. insert_keeps m S.deltas x k)

-- ---- what an accepted message is
pub accepts_passes : (S : State) (m : Message) (room : ℕ) → T (accepts S m room) → T (passes m)
unfolding accepts
accepts_passes S m room t = search (and_l, and_r)

accepts_agrees : (S : State) (m : Message) (room : ℕ) → T (accepts S m room) → T (not (conflicts S m))
unfolding accepts
accepts_agrees S m room t = search (and_l, and_r)

accepts_room : (S : State) (m : Message) (room : ℕ) → T (accepts S m room) → T (not (full S m))
unfolding accepts
accepts_room S m room t = search (and_l, and_r)

not_and : (a b : Bool) → T (not (a && not b)) → T a → T b
not_and true true t u = tt
not_and true false t u = absurd t
not_and false b t u = absurd u

not_and_r : (a b : Bool) → T (not (a && b)) → T a → T (not b)
not_and_r true b t u = t
not_and_r false b t u = absurd u

nand_cases : (a b : Bool) → T (not (a && not b)) → T b ⊎ T (not a)
nand_cases a true t = inl tt
nand_cases true false t = absurd t
nand_cases false false t = inr tt

-- a delta of the same sequence has the same bytes (it is above its floor, and so is the message)
pub accepts_same : (S : State) → Valid S → (m : Message) (room : ℕ) → T (accepts S m room)
    → (x : Message) → x ∈ S.deltas → sequence_of m ≡ sequence_of x → m ≡ x
accepts_same S valid m room t x k e =
    sym (same→eq (find S.deltas (sequence_of m)) m agrees) ∙ ap (find S.deltas) e ∙ find_here S.deltas valid.ascends x k
  where
    high : T (not (purged S (sequence_of m)))
    high = subst (λ (s : ℕ). T (not (purged S s))) (sym e) (valid.above x k)

    is_present : T (present S (sequence_of m))
    is_present = ∈→has (Memᴰ.cast e (Memᴰ.map sequence_of k))

    agrees : T (same (find S.deltas (sequence_of m)) m)
    agrees = not_and (not (purged S (sequence_of m)) && present S (sequence_of m)) (same (find S.deltas (sequence_of m)) m) (accepts_agrees S m room t)
        (and_i (not (purged S (sequence_of m))) (present S (sequence_of m)) high is_present)

add_valid : (S : State) → Valid S → (m : Message) (room : ℕ) → T (accepts S m room) → T (not (purged S (sequence_of m))) → Valid (add m S)
add_valid S valid m room t high = record {
  ascends = insert_ascending m S.deltas valid.ascends;
  fits = ⊎_elim (λ p. omega (arith, insert_there m S.deltas valid.ascends (has→∈ (sequence_of m) (sequences_of S.deltas) p), valid.fits))
      (λ p. omega (arith, insert_length m S.deltas, nleb→lt capacity (length S.deltas) (not_and_r (not (purged S (sequence_of m))) (leb capacity (length S.deltas)) p high)))
      (nand_cases (not (purged S (sequence_of m)) && leb capacity (length S.deltas)) (present S (sequence_of m)) (accepts_room S m room t));
  pass = λ x k. ⊎_elim (λ e. subst (λ (y : Message). T (passes y)) (sym e) (accepts_passes S m room t)) (λ j. valid.pass x j) (insert_from m S.deltas x k);
  above = λ x k. ⊎_elim (λ e. subst (λ (y : Message). T (not (purged S (sequence_of y)))) (sym e) high) (λ j. valid.above x j) (insert_from m S.deltas x k);
  right = valid.right;
}

pub take_in_valid : (S : State) → Valid S → (m : Message) (room : ℕ) → T (accepts S m room) → Valid (take_in m S)
take_in_valid S valid m room t = take_in_either Valid m S valid (add_valid S valid m room t)

-- the plain station's state stays valid
pub receive_valid : (S : State) → Valid S → (m : Message) (room : ℕ) → Valid (receive S m room)
unfolding receive
receive_valid S valid m room = go (accepts S m room) (λ t. t)
  where
    go : (b : Bool) → (T b → T (accepts S m room)) → Valid (cond b (take_in m S) S)
    go true f = take_in_valid S valid m room (f tt)
    go false f = valid

-- ---- at or below a floor: "answers 0 with no step", "7 and 8 are not looked for there"
unasked : (p a b : Bool) → T p → T (not (not p && a && b))
unasked true a b t = tt
unasked false a b t = absurd t

pub purged_accepted : (S : State) (m : Message) (room : ℕ) → T (not (small_steps room)) → T (passes m) → T (purged S (sequence_of m)) → T (accepts S m room)
unfolding accepts
purged_accepted S m room large pass low =
    let seventh : T (not (conflicts S m)) = unasked (purged S (sequence_of m)) (present S (sequence_of m)) (not (same (find S.deltas (sequence_of m)) m)) low in
    let eighth : T (not (full S m)) = unasked (purged S (sequence_of m)) (leb capacity (length S.deltas)) (not (present S (sequence_of m))) low in
    and_i (not (small_steps room) && passes m && not (conflicts S m)) (not (full S m))
    (and_i (not (small_steps room) && passes m) (not (conflicts S m)) (and_i (not (small_steps room)) (passes m) large pass) seventh) eighth

-- from a state to itself there is no step, and the step buffer stays as it was
pub accepted_self : (S : State) (steps : List ℕ)
    → accepted_answer S S steps ≡ record { code = 0; undos = 0; executions = 0; image = image_of S; steps = steps }
accepted_self S steps =
    ap₂ (λ (n : ℕ) (l : List StepRecord). record { code = 0; undos = n; executions = n; image = image_of S; steps = written (records_bytes l) steps })
    (undos_self (sequences_of (log_of S))) (records_self (start_values S) (log_of S))

pub purged_delivery : (S : State) → Valid S → (m : Message) (steps : List ℕ) → T (not (small_steps (length steps))) → T (passes m) → T (purged S (sequence_of m))
    → deliver (image_of S) m steps ≡ record { code = 0; undos = 0; executions = 0; image = image_of S; steps = steps }
purged_delivery S valid m steps large pass low =
    deliver_is S valid m steps
    ∙ ap (λ (n : ℕ). deliver_answer n S (image_of S) m steps) ((code_zero S m (length steps)).1 (purged_accepted S m (length steps) large pass low))
    ∙ ap (λ (R : State). accepted_answer S R steps) (take_in_purged m S low) ∙ accepted_self S steps
