-- A start put in at a place: by moving the later ones, and as a message that joins the set.
use Rattle.std.specs.Prelude.{◌≡◌, refl, Bool, cond, not, List, [], ◌∷◌, map, ℕ, zero, suc, ◌+◌, ◌-◌, ◌≤◌, ◌<◌, length, take, get_or, set, T, eqb, ltb}
use Rattle.std.proofs.Common.{sym, ◌∙◌, ap, ap₂, subst, ⊎_elim, arith, le_of_suc-le-suc, length-set, get_or-set_same, get_or-set_other, get_or-take, length-take-le, ext_get_or, ltb→lt, nltb→le, lt-ltb, le-ltb, ne_eqb}
use Rattle.std.specs.List.{CopiedTo, SameBelow}
use Rattle.model.specs.Layout.{capacity}
use Rattle.model.specs.Message.{Message, sequence_of, passes}
use Rattle.model.specs.Order.{purged, insert}
use Rattle.laws_order.specs.TestLaws.{decide}
use Rattle.laws_state.specs.SetLaws.{insert_from, insert_ascending}
use Rattle.set_table.specs.Table.{message_from, deltas_of, set_in, Holds, insert_at}
use Rattle.set_table.specs.TableLaws.{deltas_length}
use Rattle.set_table.specs.Places.{IsAbsent}

-- ---- the items of a list after one is put in
pub length_insert : {A : Type 0} (p : ℕ) (a : A) (l : List A) → p ≤ length l → length (insert_at p a l) ≡ suc (length l)
length_insert zero a l h = refl
length_insert (suc p) a [] h = let z : ⊥ = omega arith in absurd z
length_insert (suc p) a (x ∷ l) h = ap suc (length_insert p a l (le_of_suc-le-suc h))

pub insert_lower : {A : Type 0} (p : ℕ) (a : A) (l : List A) (k : ℕ) (d : A) → p ≤ length l → k < p → get_or (insert_at p a l) k d ≡ get_or l k d
insert_lower zero a l k d h q = let z : ⊥ = omega arith in absurd z
insert_lower (suc p) a [] k d h q = let z : ⊥ = omega arith in absurd z
insert_lower (suc p) a (x ∷ l) zero d h q = refl
insert_lower (suc p) a (x ∷ l) (suc k) d h q = insert_lower p a l k d (le_of_suc-le-suc h) (le_of_suc-le-suc q)

insert_here : {A : Type 0} (p : ℕ) (a : A) (l : List A) (d : A) → p ≤ length l → get_or (insert_at p a l) p d ≡ a
insert_here zero a l d h = refl
insert_here (suc p) a [] d h = let z : ⊥ = omega arith in absurd z
insert_here (suc p) a (x ∷ l) d h = insert_here p a l d (le_of_suc-le-suc h)

pub insert_higher : {A : Type 0} (p : ℕ) (a : A) (l : List A) (k : ℕ) (d : A) → p ≤ length l → p ≤ k → get_or (insert_at p a l) (suc k) d ≡ get_or l k d
insert_higher zero a l k d h q = refl
insert_higher (suc p) a [] k d h q = let z : ⊥ = omega arith in absurd z
insert_higher (suc p) a (x ∷ l) zero d h q = let z : ⊥ = omega arith in absurd z
insert_higher (suc p) a (x ∷ l) (suc k) d h q = insert_higher p a l k d (le_of_suc-le-suc h) (le_of_suc-le-suc q)

pub insert_map : {A B : Type 0} (f : A → B) (p : ℕ) (a : A) (l : List A) → map f (insert_at p a l) ≡ insert_at p (f a) (map f l)
insert_map f zero a l = refl
insert_map f (suc p) a [] = refl
insert_map f (suc p) a (x ∷ l) = ap (λ (k : List _). f x ∷ k) (insert_map f p a l)

-- ---- moving the places from i on, of `count` in use, one on
pub record Moved (l : List ℕ) (count i : ℕ) (starts : List ℕ) : Type 0 where
  pub size : length starts ≡ length l
  pub kept : (k : ℕ) → k ≤ i → get_or starts k 0 ≡ get_or l k 0
  pub moved : (k : ℕ) → i ≤ k → k < count → get_or starts (suc k) 0 ≡ get_or l k 0

pub moved_none : (l : List ℕ) (count : ℕ) → Moved l count count l
moved_none l count = record { size = refl; kept = λ k h. refl; moved = λ k h q. let z : ⊥ = omega arith in absurd z }

pub moved_more : (l : List ℕ) (count i : ℕ) (starts : List ℕ) → Moved l count i starts → 0 < i → i < length l
    → Moved l count (i - 1) (set starts i (get_or starts (i - 1) 0))
moved_more l count i starts m h q = record {
  size = length-set starts i (get_or starts (i - 1) 0) ∙ m.size;
  kept = λ k r. get_or-set_other starts i k (get_or starts (i - 1) 0) 0 (λ e. let z : ⊥ = omega arith in z) ∙ m.kept k (omega arith);
  moved = λ k r s. ⊎_elim (λ t. here k r (ltb→lt k i t)) (λ t. later k (nltb→le k i t) s) (decide (ltb k i));
}
  where
    here : (k : ℕ) → i - 1 ≤ k → k < i → get_or (set starts i (get_or starts (i - 1) 0)) (suc k) 0 ≡ get_or l k 0
    here k r s =
        let e : suc k ≡ i = omega arith in
        let d : i - 1 ≡ k = omega arith in
        ap (λ (x : ℕ). get_or (set starts i (get_or starts (i - 1) 0)) x 0) e
        ∙ get_or-set_same starts i (get_or starts (i - 1) 0) 0 (omega (arith, m.size)) ∙ m.kept (i - 1) (omega arith) ∙ ap (λ (x : ℕ). get_or l x 0) d

    later : (k : ℕ) → i ≤ k → k < count → get_or (set starts i (get_or starts (i - 1) 0)) (suc k) 0 ≡ get_or l k 0
    later k r s = get_or-set_other starts i (suc k) (get_or starts (i - 1) 0) 0 (λ e. let z : ⊥ = omega arith in z) ∙ m.moved k r s

-- as std's copy_within moves them
pub moved_copied : (l starts : List ℕ) (count p : ℕ) → length starts ≡ length l → CopiedTo l starts p (p + 1) (count - p) → SameBelow l starts (p + 1) → p ≤ count
    → Moved l count p starts
moved_copied l starts count p size copied below h = record {
  size = size;
  kept = λ k r. below k 0 (omega arith);
  moved = λ k r s. copied (suc k) 0 (omega arith) (omega arith) ∙ ap (λ (x : ℕ). get_or l x 0) {x = p + (suc k - (p + 1))} {y = k} (omega arith);
}

pub moved_insert : (l : List ℕ) (count p at : ℕ) (starts : List ℕ) → Moved l count p starts → p ≤ count → count < length l
    → take (count + 1) (set starts p at) ≡ insert_at p at (take count l)
moved_insert l count p at starts m h q = ext_get_or 0 (take (count + 1) (set starts p at)) (insert_at p at (take count l)) (size ∙ sym other) at_place
  where
    used : length (take count l) ≡ count
    used = length-take-le count l (omega arith)

    size : length (take (count + 1) (set starts p at)) ≡ suc count
    size = length-take-le (count + 1) (set starts p at) (omega (arith, length-set starts p at, m.size)) ∙ omega arith

    other : length (insert_at p at (take count l)) ≡ suc count
    other = length_insert p at (take count l) (omega (arith, used)) ∙ ap suc used

    lower : (k : ℕ) → k < p → get_or (set starts p at) k 0 ≡ get_or (insert_at p at (take count l)) k 0
    lower k r =
        get_or-set_other starts p k at 0 (λ e. let z : ⊥ = omega arith in z) ∙ m.kept k (omega arith)
        ∙ sym (insert_lower p at (take count l) k 0 (omega (arith, used)) r ∙ get_or-take count l k 0 (omega arith))

    here : get_or (set starts p at) p 0 ≡ get_or (insert_at p at (take count l)) p 0
    here = get_or-set_same starts p at 0 (omega (arith, m.size)) ∙ sym (insert_here p at (take count l) 0 (omega (arith, used)))

    higher : (k : ℕ) → p ≤ k → k < count → get_or (set starts p at) (suc k) 0 ≡ get_or (insert_at p at (take count l)) (suc k) 0
    higher k r s =
        get_or-set_other starts p (suc k) at 0 (λ e. let z : ⊥ = omega arith in z) ∙ m.moved k r s
        ∙ sym (insert_higher p at (take count l) k 0 (omega (arith, used)) r ∙ get_or-take count l k 0 s)

    upper : (k : ℕ) → p ≤ k → k < suc count → get_or (set starts p at) k 0 ≡ get_or (insert_at p at (take count l)) k 0
    upper zero r s = let e : p ≡ 0 = omega arith in subst (λ (x : ℕ). get_or (set starts p at) x 0 ≡ get_or (insert_at p at (take count l)) x 0) e here
    upper (suc k) r s = ⊎_elim
        (λ t. higher k (let x : p < suc k = ltb→lt p (suc k) t in omega arith) (omega arith))
        (λ t. let e : p ≡ suc k = omega (arith, nltb→le p (suc k) t) in subst (λ (x : ℕ). get_or (set starts p at) x 0 ≡ get_or (insert_at p at (take count l)) x 0) e here)
        (decide (ltb p (suc k)))

    at_place : (k : ℕ) → k < length (take (count + 1) (set starts p at)) → get_or (take (count + 1) (set starts p at)) k 0 ≡ get_or (insert_at p at (take count l)) k 0
    at_place k r =
        let s : k < suc count = omega (arith, size) in
        get_or-take (count + 1) (set starts p at) k 0 (omega arith)
        ∙ ⊎_elim (λ t. lower k (ltb→lt k p t)) (λ t. upper k (nltb→le k p t) s) (decide (ltb k p))

-- ---- where `find` names the place, the message joins the set
insert_first : (m y : Message) (l : List Message) → sequence_of m < sequence_of y → insert m (y ∷ l) ≡ m ∷ y ∷ l
insert_first m y l h =
    ap (λ (t : Bool). cond t (m ∷ y ∷ l) (cond (eqb (sequence_of m) (sequence_of y)) (y ∷ l) (y ∷ insert m l))) (lt-ltb (sequence_of m) (sequence_of y) h)

insert_past : (m y : Message) (l : List Message) → sequence_of y < sequence_of m → insert m (y ∷ l) ≡ y ∷ insert m l
insert_past m y l h =
    ap₂ (λ (t u : Bool). cond t (m ∷ y ∷ l) (cond u (y ∷ l) (y ∷ insert m l)))
    (le-ltb (sequence_of m) (sequence_of y) (omega arith)) (ne_eqb (sequence_of m) (sequence_of y) (λ e. omega arith))

absent_rest : (pool : List ℕ) (s x p : ℕ) (l : List ℕ) → IsAbsent pool (x ∷ l) s (suc p) → IsAbsent pool l s p
absent_rest pool s x p l h = record {
  inside = omega (arith, h.inside);
  before = λ k q. h.before (suc k) (omega arith);
  after = λ k q r. h.after (suc k) (omega arith) (omega arith);
}

pub insert_deltas : (pool : List ℕ) (at p : ℕ) (l : List ℕ) → IsAbsent pool l (sequence_of (message_from pool at)) p
    → deltas_of pool (insert_at p at l) ≡ insert (message_from pool at) (deltas_of pool l)
insert_deltas pool at zero [] h = refl
insert_deltas pool at zero (x ∷ l) h = sym (insert_first (message_from pool at) (message_from pool x) (deltas_of pool l) (h.after 0 (omega arith) (omega arith)))
insert_deltas pool at (suc p) [] h = let z : ⊥ = omega (arith, h.inside) in absurd z
insert_deltas pool at (suc p) (x ∷ l) h =
    ap (λ (k : List Message). message_from pool x ∷ k) (insert_deltas pool at p l (absent_rest pool (sequence_of (message_from pool at)) x p l h))
    ∙ sym (insert_past (message_from pool at) (message_from pool x) (deltas_of pool l) (h.before 0 (omega arith)))

pub insert_holds : (pool : List ℕ) (at p : ℕ) (l : List ℕ) → Holds pool l → IsAbsent pool l (sequence_of (message_from pool at)) p
    → T (passes (message_from pool at)) → T (not (purged (set_in pool l) (sequence_of (message_from pool at)))) → length l < capacity → Holds pool (insert_at p at l)
insert_holds pool at p l holds h t v q = record {
  ascends = rw e (insert_ascending m (deltas_of pool l) holds.ascends);
  fits = omega (arith, deltas_length pool (insert_at p at l), length_insert p at l h.inside);
  pass = λ x k. ⊎_elim (λ u. rw u t) (λ j. holds.pass x j) (insert_from m (deltas_of pool l) x (rw e at k));
  above = λ x k. ⊎_elim (λ u. rw u v) (λ j. holds.above x j) (insert_from m (deltas_of pool l) x (rw e at k));
  right = holds.right;
}
  where
    m : Message
    m = message_from pool at

    e : deltas_of pool (insert_at p at l) ≡ insert m (deltas_of pool l)
    e = insert_deltas pool at p l h
