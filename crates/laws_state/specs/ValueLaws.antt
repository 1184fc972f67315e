-- Every setpoint is between -1000000 and 1000000, and so is what a change finds and leaves; values in that range that are written are
-- read back, each by its four bytes.
use Rattle.std.specs.Prelude.{◌≡◌, refl, Bool, true, false, cond, not, List, [], ◌∷◌, ◌++◌, map, ℕ, zero, suc, ◌*◌, ◌≤◌, ◌<◌, length, drop, get_or, set, T, eqb, ltb, ℤ, pos, negsuc, ◌+ℤ◌}
use Rattle.std.proofs.Common.{sym, ◌∙◌, ap, ap₂, subst, ⊎_elim, arith, leb→le, ltb→lt}
use mathlib.Core.List.Memᴰ
use Rattle.std.proofs.lemmas.List.{length-map}
use Rattle.std.specs.Int.Signed.{mag, lt_z, le_z, lt_z_no}
use Rattle.model.specs.Lists.{◌∈◌, every}
use Rattle.model.specs.Bytes.{number, bytes, field, parts, integer, word}
use Rattle.model.specs.Layout.{operation_at, tag_at, value_size, tag_count, lowest_value, highest_value}
use Rattle.model.specs.Message.{Message, value_of, commands_of, command_right, content_right, passes}
use Rattle.model.specs.Order.{State, in_range, log_of}
use Rattle.model.specs.Setpoints.{start_values, stop, raise, operate, Change, change_of, apply, run_command, run_commands, changes_by, run_delta, changes_of, run_log, setpoints_of}
use Rattle.model.specs.Image.{values_bytes, values_at, Valid}
use Rattle.laws_order.specs.TestLaws.{and_l, and_r, every_∈}
use Rattle.laws_wire.specs.BytesLaws.{length_bytes, number_bytes, length_join, parts_join, integer_word}
use Rattle.laws_origin.specs.OriginLaws.{base_range}
use Rattle.laws_state.specs.LogLaws.{log_received}

-- ---- the range: 1000000 and -1000000 are its ends
abbrev pub InRange : ℤ → Type 0
InRange z = T (le_z lowest_value z) × T (le_z z highest_value)

abbrev pub AllInRange : List ℤ → Type 0
AllInRange t = (i : ℕ) → InRange (get_or t i (pos 0))

pub in_range_mag : (z : ℤ) → InRange z → mag z ≤ 1000000
in_range_mag (pos n) r = leb→le n 1000000 r.1
in_range_mag (negsuc n) r = let h : n ≤ 999999 = leb→le n 999999 r.0 in omega arith

-- what is not lower than low and not above high is in the range
not_lower : (a z : ℤ) → T (not (lt_z z a)) → T (le_z a z)
not_lower a z t = (lt_z_no {a = z} {b = a} t).le

stop_range : (z : ℤ) → InRange (stop lowest_value highest_value z)
unfolding stop
stop_range z = go (lt_z z lowest_value) (lt_z highest_value z) (not_lower lowest_value z) (not_lower z highest_value)
  where
    go : (b c : Bool) → (T (not b) → T (le_z lowest_value z)) → (T (not c) → T (le_z z highest_value)) → InRange (cond b lowest_value (cond c highest_value z))
    go true c f g = (tt, tt)
    go false true f g = (tt, tt)
    go false false f g = (f tt, g tt)

cond_range : (b : Bool) (x y : ℤ) → InRange x → InRange y → InRange (cond b x y)
cond_range true x y p q = p
cond_range false x y p q = q

operate_range : (operation : ℕ) (x v : ℤ) → InRange x → InRange v → InRange (operate operation x v)
unfolding operate raise
operate_range operation x v p q =
    cond_range (eqb operation 1) v (cond (eqb operation 2) (stop lowest_value highest_value (x +ℤ v)) (raise x v)) q
    (cond_range (eqb operation 2) (stop lowest_value highest_value (x +ℤ v)) (raise x v) (stop_range (x +ℤ v)) (cond_range (lt_z x v) v x q p))

-- ---- what is run keeps it
command_range : (c : List ℕ) → T (command_right c) → InRange (value_of c)
unfolding command_right
command_range c t = (search (and_l, and_r) depth 8, search (and_l, and_r) depth 8)

set_range : (t : List ℤ) (k : ℕ) (v : ℤ) → AllInRange t → InRange v → AllInRange (set t k v)
set_range [] k v h r = h
set_range (x ∷ t) zero v h r = λ (i : ℕ). go i
  where
    go : (i : ℕ) → InRange (get_or (v ∷ t) i (pos 0))
    go zero = r
    go (suc i) = h (suc i)
set_range (x ∷ t) (suc k) v h r = λ (i : ℕ). go i (set_range t k v (λ j. h (suc j)) r)
  where
    go : (i : ℕ) → AllInRange (set t k v) → InRange (get_or (x ∷ set t k v) i (pos 0))
    go zero f = h 0
    go (suc i) f = f i

-- a change in range, at one of the 64 tags
pub record ChangeInRange (c : Change) : Type 0 where
  pub tag : c.tag < tag_count
  pub before : InRange c.before
  pub after : InRange c.after

change_range : (c : List ℕ) (t : List ℤ) → T (command_right c) → AllInRange t → ChangeInRange (change_of c t)
unfolding command_right change_of
change_range c t right h =
    let tag = field c tag_at 1 in
    let small : T (ltb tag tag_count) = search (and_l, and_r) depth 8 in
    record {
      tag = ltb→lt tag tag_count small;
      before = h tag;
      after = operate_range (field c operation_at 1) (get_or t tag (pos 0)) (value_of c) (h tag) (command_range c right);
    }

run_command_range : (c : List ℕ) (t : List ℤ) → T (command_right c) → AllInRange t → AllInRange (run_command c t)
unfolding run_command apply
run_command_range c t right h = set_range t (change_of c t).tag (change_of c t).after h (change_range c t right h).after

changes_range : (l : List (List ℕ)) (t : List ℤ) → ((c : List ℕ) → c ∈ l → T (command_right c)) → AllInRange t → (x : Change) → x ∈ changes_by l t → ChangeInRange x
changes_range [] t right h x k = absurd (Memᴰ.not-nil k)
changes_range (c ∷ l) t right h x k =
    let first : T (command_right c) = right c (Memᴰ.head refl) in
    ⊎_elim (λ e. subst ChangeInRange (sym e) (change_range c t first h))
    (changes_range l (run_command c t) (λ d j. right d (Memᴰ.tail j)) (run_command_range c t first h) x) (Memᴰ.cases_cons k)

commands_range : (l : List (List ℕ)) (t : List ℤ) → ((c : List ℕ) → c ∈ l → T (command_right c)) → AllInRange t → AllInRange (run_commands l t)
commands_range [] t right h = h
commands_range (c ∷ l) t right h = commands_range l (run_command c t) (λ d k. right d (Memᴰ.tail k)) (run_command_range c t (right c (Memᴰ.head refl)) h)

passes_commands : (m : Message) → T (passes m) → T (every command_right (commands_of m))
unfolding passes content_right
passes_commands m t = search (and_l, and_r) depth 8

pub delta_changes_range : (m : Message) (t : List ℤ) → T (passes m) → AllInRange t → (x : Change) → x ∈ changes_of m t → ChangeInRange x
unfolding changes_of
delta_changes_range m t pass h = changes_range (commands_of m) t (every_∈ command_right (commands_of m) (passes_commands m pass)) h

pub delta_range : (m : Message) (t : List ℤ) → T (passes m) → AllInRange t → AllInRange (run_delta m t)
unfolding run_delta
delta_range m t pass h = commands_range (commands_of m) t (every_∈ command_right (commands_of m) (passes_commands m pass)) h

pub log_range : (l : List Message) (t : List ℤ) → ((m : Message) → m ∈ l → T (passes m)) → AllInRange t → AllInRange (run_log l t)
log_range [] t pass h = h
log_range (m ∷ l) t pass h = log_range l (run_delta m t) (λ x k. pass x (Memᴰ.tail k)) (delta_range m t (pass m (Memᴰ.head refl)) h)

-- ---- the base values are in range, and so is what the log leaves
base_values_range : (t : List ℤ) → T (every in_range t) → AllInRange t
base_values_range [] h = λ i. (tt, tt)
base_values_range (v ∷ t) h = λ (i : ℕ). go i (and_l (in_range v) (every in_range t) h) (base_values_range t (and_r (in_range v) (every in_range t) h))
  where
    go : (i : ℕ) → T (in_range v) → AllInRange t → InRange (get_or (v ∷ t) i (pos 0))
    go zero r f = (and_l (le_z lowest_value v) (le_z v highest_value) r, and_r (le_z lowest_value v) (le_z v highest_value) r)
    go (suc i) r f = f i

pub start_range : (S : State) → Valid S → AllInRange (start_values S)
unfolding start_values
start_range S valid = base_values_range S.origin.base (base_range S.origin valid.right)

pub setpoints_range : (S : State) → Valid S → AllInRange (setpoints_of S)
unfolding setpoints_of
setpoints_range S valid = log_range (log_of S) (start_values S) (λ m k. valid.pass m (log_received S valid.ascends m k)) (start_range S valid)

-- ---- values that are written are read back
-- a value's four bytes
abbrev word_bytes : ℤ → List ℕ
word_bytes v = bytes value_size (word v)

words_sized : (t : List ℤ) (b : List ℕ) → b ∈ map word_bytes t → length b ≡ value_size
words_sized t b k = let r = Memᴰ.of_map word_bytes t k in ap length (sym r.2) ∙ length_bytes value_size (word r.0)

pub length_values_bytes : (t : List ℤ) → length (values_bytes t) ≡ value_size * length t
length_values_bytes t = length_join value_size (map word_bytes t) (words_sized t) ∙ omega (arith, length-map t word_bytes)

each_back : (t : List ℤ) → AllInRange t → map (λ p. integer (number p)) (map word_bytes t) ≡ t
each_back [] h = refl
each_back (v ∷ t) h =
    let small = integer_word v (omega (arith, in_range_mag v (h 0))) in
    ap₂ ◌∷◌ (ap integer (number_bytes value_size (word v) small.0) ∙ small.1) (each_back t (λ i. h (suc i)))

pub values_read : (t : List ℤ) → length t ≡ tag_count → AllInRange t → (at : ℕ) (b rest : List ℕ) → drop at b ≡ values_bytes t ++ rest → values_at at b ≡ t
values_read t e h at b rest here =
    ap (map (λ p. integer (number p)))
    (ap₂ (λ (n : ℕ) (d : List ℕ). parts n value_size d) (sym (length-map t word_bytes ∙ e)) here ∙ parts_join value_size (map word_bytes t) rest (words_sized t))
    ∙ each_back t h
