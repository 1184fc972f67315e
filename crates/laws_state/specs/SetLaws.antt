-- Sets of messages: lists that ascend strictly by sequence. Two of them with the same messages are equal.
use Rattle.std.specs.Prelude.{◌≡◌, refl, ◌⊎◌, Bool, true, false, cond, not, List, [], ◌∷◌, map, ℕ, suc, ◌≤◌, ◌<◌, length, T, eqb, ltb}
use Rattle.std.proofs.Common.{sym, ◌∙◌, ap, ap₂, subst, inl, inr, ⊎_elim, arith, lt_irrefl, eqb→eq, ltb→lt, nltb→le}
use mathlib.Core.List.Memᴰ
use Rattle.model.specs.Lists.{◌∈◌, keep}
use Rattle.model.specs.Message.{Message, sequence_of}
use Rattle.model.specs.Order.{Ascending, insert, find}
use Rattle.model.specs.Image.{set_of}
use Rattle.laws_order.specs.TestLaws.{Same, not_eqb, keep_∈}

pub insert_from : (m : Message) (S : List Message) (a : Message) → a ∈ insert m S → (a ≡ m) ⊎ (a ∈ S)
insert_from m [] a h = Memᴰ.cases_cons h
insert_from m (x ∷ S) a h = go (ltb (sequence_of m) (sequence_of x)) (eqb (sequence_of m) (sequence_of x)) (insert_from m S a) h
  where
    go : (b c : Bool) → (a ∈ insert m S → (a ≡ m) ⊎ (a ∈ S)) → a ∈ cond b (m ∷ x ∷ S) (cond c (x ∷ S) (x ∷ insert m S)) → (a ≡ m) ⊎ (a ∈ (x ∷ S))
    go true c ih h = Memᴰ.cases_cons h
    go false true ih h = inr h
    go false false ih h = ⊎_elim (λ e. inr (Memᴰ.head e)) (λ k. ⊎_elim inl (λ j. inr (Memᴰ.tail j)) (ih k)) (Memᴰ.cases_cons h)

pub insert_ascending : (m : Message) (S : List Message) → Ascending S → Ascending (insert m S)
insert_ascending m [] h = (λ x k. absurd (Memᴰ.not-nil k), tt)
insert_ascending m (x ∷ S) h =
    go (ltb (sequence_of m) (sequence_of x)) (eqb (sequence_of m) (sequence_of x)) (ltb→lt (sequence_of m) (sequence_of x)) (nltb→le (sequence_of m) (sequence_of x)) (not_eqb (sequence_of m) (sequence_of x)) (insert_ascending m S h.1)
  where
    go : (b c : Bool) → (T b → sequence_of m < sequence_of x) → (T (not b) → sequence_of x ≤ sequence_of m) → (T (not c) → ¬ (sequence_of m ≡ sequence_of x)) → Ascending (insert m S)
        → Ascending (cond b (m ∷ x ∷ S) (cond c (x ∷ S) (x ∷ insert m S)))
    go true c f g n ih = (λ y k. ⊎_elim (λ e. omega (arith, f tt, ap sequence_of e)) (λ j. omega (arith, f tt, h.0 y j)) (Memᴰ.cases_cons k), h)
    go false true f g n ih = h
    go false false f g n ih = (λ y k. ⊎_elim (λ e. omega (arith, g tt, n tt, ap sequence_of e)) (λ j. h.0 y j) (insert_from m S y k), ih)

-- what passes a test ascends too
pub keep_ascending : (p : Message → Bool) (S : List Message) → Ascending S → Ascending (keep p S)
keep_ascending p [] h = tt
keep_ascending p (m ∷ S) h = go (p m) (keep_ascending p S h.1)
  where
    go : (b : Bool) → Ascending (keep p S) → Ascending (cond b (m ∷ keep p S) (keep p S))
    go true ih = (λ x k. h.0 x (keep_∈ p S k).0, ih)
    go false ih = ih

clash : {a b : ℕ} → a < b → b < a → ⊥
clash h k = omega arith

tail_of : (x y : Message) (S R : List Message) → Ascending (x ∷ S) → Same (x ∷ S) (y ∷ R) → x ≡ y → (a : Message) → a ∈ S → a ∈ R
tail_of x y S R p f e a k =
    ⊎_elim (λ u. absurd (lt_irrefl (sequence_of x) (subst (λ (z : Message). sequence_of x < sequence_of z) (u ∙ sym e) (p.0 a k)))) (λ j. j)
    (Memᴰ.cases_cons ((f a).0 (Memᴰ.tail k)))

pub ascending_unique : (S R : List Message) → Ascending S → Ascending R → Same S R → S ≡ R
ascending_unique [] [] p q f = refl
ascending_unique [] (y ∷ R) p q f = absurd (Memᴰ.not-nil ((f y).1 (Memᴰ.head refl)))
ascending_unique (x ∷ S) [] p q f = absurd (Memᴰ.not-nil ((f x).0 (Memᴰ.head refl)))
ascending_unique (x ∷ S) (y ∷ R) p q f = ap₂ ◌∷◌ heads (ascending_unique S R p.1 q.1 (λ a. (tail_of x y S R p f heads a, tail_of y x R S q (λ b. ((f b).1, (f b).0)) (sym heads) a)))
  where
    heads : x ≡ y
    heads = ⊎_elim (λ e. e) (λ u. ⊎_elim sym (λ v. absurd (clash (p.0 y v) (q.0 x u))) (Memᴰ.cases_cons ((f y).1 (Memᴰ.head refl))))
        (Memᴰ.cases_cons ((f x).0 (Memᴰ.head refl)))

pub ascending_names : (S : List Message) → Ascending S → (a b : Message) → a ∈ S → b ∈ S → sequence_of a ≡ sequence_of b → a ≡ b
ascending_names [] h a b p q e = absurd (Memᴰ.not-nil p)
ascending_names (x ∷ S) h a b p q e = go (ascending_names S h.1 a b) (Memᴰ.cases_cons p) (Memᴰ.cases_cons q)
  where
    go : (a ∈ S → b ∈ S → sequence_of a ≡ sequence_of b → a ≡ b) → (a ≡ x) ⊎ (a ∈ S) → (b ≡ x) ⊎ (b ∈ S) → a ≡ b
    go ih (inl u) (inl v) = u ∙ sym v
    go ih (inl u) (inr v) = absurd (lt_irrefl (sequence_of a) (omega (arith, h.0 b v, ap sequence_of u)))
    go ih (inr u) (inl v) = absurd (lt_irrefl (sequence_of a) (omega (arith, h.0 a u, ap sequence_of v)))
    go ih (inr u) (inr v) = ih u v e

pub find_here : (S : List Message) → Ascending S → (m : Message) → m ∈ S → find S (sequence_of m) ≡ m
find_here [] h m k = absurd (Memᴰ.not-nil k)
find_here (x ∷ S) h m k = go (eqb (sequence_of x) (sequence_of m)) (eqb→eq (sequence_of x) (sequence_of m)) (not_eqb (sequence_of x) (sequence_of m)) (Memᴰ.cases_cons k) (find_here S h.1 m)
  where
    go : (c : Bool) → (T c → sequence_of x ≡ sequence_of m) → (T (not c) → sequence_of x ≡ sequence_of m → ⊥) → (m ≡ x) ⊎ (m ∈ S) → (m ∈ S → find S (sequence_of m) ≡ m) → cond c x (find S (sequence_of m)) ≡ m
    go true f g o ih = ascending_names (x ∷ S) h x m (Memᴰ.head refl) k (f tt)
    go false f g (inl e) ih = absurd (g tt (ap sequence_of (sym e)))
    go false f g (inr j) ih = ih j

pub insert_length : (m : Message) (S : List Message) → length (insert m S) ≤ suc (length S)
insert_length m [] = omega arith
insert_length m (x ∷ S) = go (ltb (sequence_of m) (sequence_of x)) (eqb (sequence_of m) (sequence_of x)) (insert_length m S)
  where
    go : (b c : Bool) → length (insert m S) ≤ suc (length S) → length (cond b (m ∷ x ∷ S) (cond c (x ∷ S) (x ∷ insert m S))) ≤ suc (suc (length S))
    go true c h = omega arith
    go false true h = omega arith
    go false false h = omega arith

-- in an ascending list a sequence that is there is met
pub insert_there : (m : Message) (S : List Message) → Ascending S → sequence_of m ∈ map sequence_of S → length (insert m S) ≡ length S
insert_there m [] h k = absurd (Memᴰ.not-nil k)
insert_there m (x ∷ S) h k =
    go (ltb (sequence_of m) (sequence_of x)) (eqb (sequence_of m) (sequence_of x)) (ltb→lt (sequence_of m) (sequence_of x)) (not_eqb (sequence_of m) (sequence_of x)) (λ j. insert_there m S h.1 j) (Memᴰ.cases_cons k)
  where
    above : sequence_of m ∈ map sequence_of S → sequence_of x < sequence_of m
    above j = let r = Memᴰ.of_map sequence_of S j in omega (arith, h.0 r.0 r.1, r.2)

    go : (b c : Bool) → (T b → sequence_of m < sequence_of x) → (T (not c) → sequence_of m ≡ sequence_of x → ⊥) → (sequence_of m ∈ map sequence_of S → length (insert m S) ≡ length S) → (sequence_of m ≡ sequence_of x) ⊎ (sequence_of m ∈ map sequence_of S)
        → length (cond b (m ∷ x ∷ S) (cond c (x ∷ S) (x ∷ insert m S))) ≡ suc (length S)
    go true c f g ih (inl e) = absurd (let z : sequence_of m < sequence_of x = f tt in omega (arith, e))
    go true c f g ih (inr j) = absurd (let z : sequence_of m < sequence_of x = f tt in omega (arith, above j))
    go false true f g ih o = refl
    go false false f g ih (inl e) = absurd (g tt e)
    go false false f g ih (inr j) = ap suc (ih j)

-- one of the same sequence stays as it is
pub insert_present : (m : Message) (l : List Message) → Ascending l → sequence_of m ∈ map sequence_of l → insert m l ≡ l
insert_present m [] h k = absurd (Memᴰ.not-nil k)
insert_present m (x ∷ l) h k =
    go (ltb (sequence_of m) (sequence_of x)) (eqb (sequence_of m) (sequence_of x)) (ltb→lt (sequence_of m) (sequence_of x)) (not_eqb (sequence_of m) (sequence_of x)) (λ j. insert_present m l h.1 j) (Memᴰ.cases_cons k)
  where
    above : sequence_of m ∈ map sequence_of l → sequence_of x < sequence_of m
    above j = let r = Memᴰ.of_map sequence_of l j in omega (arith, h.0 r.0 r.1, r.2)

    go : (b c : Bool) → (T b → sequence_of m < sequence_of x) → (T (not c) → sequence_of m ≡ sequence_of x → ⊥)
        → (sequence_of m ∈ map sequence_of l → insert m l ≡ l) → (sequence_of m ≡ sequence_of x) ⊎ (sequence_of m ∈ map sequence_of l)
        → cond b (m ∷ x ∷ l) (cond c (x ∷ l) (x ∷ insert m l)) ≡ x ∷ l
    go true c f g ih (inl e) = let z : ⊥ = (let u : sequence_of m < sequence_of x = f tt in omega (arith, e)) in absurd z
    go true c f g ih (inr j) = let z : ⊥ = (let u : sequence_of m < sequence_of x = f tt in omega (arith, above j)) in absurd z
    go false true f g ih o = refl
    go false false f g ih (inl e) = absurd (g tt e)
    go false false f g ih (inr j) = ap (λ (r : List Message). x ∷ r) (ih j)

pub set_of_ascending : (l : List Message) → Ascending (set_of l)
set_of_ascending [] = tt
set_of_ascending (m ∷ l) = insert_ascending m (set_of l) (set_of_ascending l)

pub set_of_from : (l : List Message) (a : Message) → a ∈ set_of l → a ∈ l
set_of_from [] a k = k
set_of_from (m ∷ l) a k = ⊎_elim (λ e. Memᴰ.head e) (λ j. Memᴰ.tail (set_of_from l a j)) (insert_from m (set_of l) a k)

pub insert_keeps : (m : Message) (S : List Message) (a : Message) → a ∈ S → a ∈ insert m S
insert_keeps m [] a k = absurd (Memᴰ.not-nil k)
insert_keeps m (x ∷ S) a k = go (ltb (sequence_of m) (sequence_of x)) (eqb (sequence_of m) (sequence_of x)) (insert_keeps m S a)
  where
    go : (b c : Bool) → (a ∈ S → a ∈ insert m S) → a ∈ cond b (m ∷ x ∷ S) (cond c (x ∷ S) (x ∷ insert m S))
    go true c ih = Memᴰ.tail k
    go false true ih = k
    go false false ih = ⊎_elim (λ e. Memᴰ.head e) (λ j. Memᴰ.tail (ih j)) (Memᴰ.cases_cons k)

pub insert_has : (m : Message) (S : List Message) → ((x : Message) → x ∈ S → sequence_of m ≡ sequence_of x → m ≡ x) → m ∈ insert m S
insert_has m [] f = Memᴰ.head refl
insert_has m (x ∷ S) f = go (ltb (sequence_of m) (sequence_of x)) (eqb (sequence_of m) (sequence_of x)) (eqb→eq (sequence_of m) (sequence_of x)) (insert_has m S (λ y j. f y (Memᴰ.tail j)))
  where
    go : (b c : Bool) → (T c → sequence_of m ≡ sequence_of x) → m ∈ insert m S → m ∈ cond b (m ∷ x ∷ S) (cond c (x ∷ S) (x ∷ insert m S))
    go true c g ih = Memᴰ.head refl
    go false true g ih = Memᴰ.head (f x (Memᴰ.head refl) (g tt))
    go false false g ih = Memᴰ.tail ih

pub set_of_into : (l : List Message) → ((a b : Message) → a ∈ l → b ∈ l → sequence_of a ≡ sequence_of b → a ≡ b) → (a : Message) → a ∈ l → a ∈ set_of l
set_of_into [] f a k = k
set_of_into (m ∷ l) f a k =
    ⊎_elim (λ e. Memᴰ.cast e (insert_has m (set_of l) (λ x j. f m x (Memᴰ.head refl) (Memᴰ.tail (set_of_from l x j)))))
    (λ j. insert_keeps m (set_of l) a (set_of_into l (λ x y p q. f x y (Memᴰ.tail p) (Memᴰ.tail q)) a j)) (Memᴰ.cases_cons k)

pub set_of_same : (S l : List Message) → Ascending S → Same l S → set_of l ≡ S
set_of_same S l asc f =
    ascending_unique (set_of l) S (set_of_ascending l) asc
    (λ a. (λ k. (f a).0 (set_of_from l a k), λ k. set_of_into l (λ x y p q. ascending_names S asc x y ((f x).0 p) ((f y).0 q)) a ((f a).1 k)))
