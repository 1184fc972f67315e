-- Laws of the tests on lists: each test as the statement that it decides.
use Rattle.std.specs.Prelude.{◌≡◌, refl, ◌⊎◌, Bool, true, false, cond, not, ◌&&◌, ◌||◌, List, [], ◌∷◌, ℕ, ◌≤◌, ◌<◌, max, length, T, eqb, ltb, leb}
use Rattle.std.proofs.Common.{sym, ap, ap₂, subst, inl, inr, ⊎_elim, arith, le_refl, eqb→eq, ltb→lt, lt→ltb, leb→le, le→leb, T_not, eq-eqb}
use mathlib.Core.List.Memᴰ
use Rattle.std.proofs.Math.Dec.{eqb_refl, not_T}
use Rattle.model.specs.Lists.{◌∈◌, has, has_all, every, some?, keep, greatest, same}

-- ---- the laws of tests
pub and_l : (a b : Bool) → T (a && b) → T a
and_l true b t = tt
and_l false b t = t

pub and_r : (a b : Bool) → T (a && b) → T b
and_r true b t = t
and_r false b t = absurd t

pub and_i : (a b : Bool) → T a → T b → T (a && b)
and_i true b p q = q
and_i false b p q = p

pub or_l : (a b : Bool) → T a → T (a || b)
or_l true b p = tt
or_l false b p = absurd p

pub or_r : (a b : Bool) → T b → T (a || b)
or_r true b p = tt
or_r false b p = p

pub or_e : (a b : Bool) → T (a || b) → T a ⊎ T b
or_e true b p = inl tt
or_e false b p = inr p

-- a test that is passed is true, and one that is not is false
pub is_true : (b : Bool) → T b → b ≡ true
is_true true t = refl
is_true false t = absurd t

pub is_false : (b : Bool) → T (not b) → b ≡ false
is_false true t = absurd t
is_false false t = refl

pub false_of : (b : Bool) → (T b → ⊥) → b ≡ false
false_of b f = is_false b (not_T b f)

pub true_T : (b : Bool) → b ≡ true → T b
true_T b e = subst T (sym e) tt

pub nor_l : (a b : Bool) → T (not (a || b)) → T (not a)
nor_l true b t = t
nor_l false b t = tt

pub nor_r : (a b : Bool) → T (not (a || b)) → T (not b)
nor_r true b t = absurd t
nor_r false b t = t

pub not_eqb : (a b : ℕ) → T (not (eqb a b)) → a ≡ b → ⊥
not_eqb a b t e = T_not (eqb a b) t (subst (λ (z : ℕ). T (eqb a z)) e (eqb_refl a))

pub eq→eqb : {a b : ℕ} → a ≡ b → T (eqb a b)
eq→eqb {a} {b} e = true_T (eqb a b) (eq-eqb a b e)

-- a test is passed or its negation is
pub decide : (b : Bool) → T b ⊎ T (not b)
decide true = inl tt
decide false = inr tt

-- tests that decide the same statement are equal
pub same_test : (a b : Bool) → (T a → T b) → (T b → T a) → a ≡ b
same_test true true f g = refl
same_test true false f g = absurd (f tt)
same_test false true f g = absurd (g tt)
same_test false false f g = refl

pub same_ltb : (a b c d : ℕ) → (a < b → c < d) → (c < d → a < b) → ltb a b ≡ ltb c d
same_ltb a b c d f g =
    same_test (ltb a b) (ltb c d) (λ t. lt→ltb c d (f (ltb→lt a b t))) (λ t. lt→ltb a b (g (ltb→lt c d t)))

pub same_leb : (a b c d : ℕ) → (a ≤ b → c ≤ d) → (c ≤ d → a ≤ b) → leb a b ≡ leb c d
same_leb a b c d f g =
    same_test (leb a b) (leb c d) (λ t. le→leb c d (f (leb→le a b t))) (λ t. le→leb a b (g (leb→le c d t)))

pub same_eqb : (a b c d : ℕ) → (a ≡ b → c ≡ d) → (c ≡ d → a ≡ b) → eqb a b ≡ eqb c d
same_eqb a b c d f g =
    same_test (eqb a b) (eqb c d) (λ t. eq→eqb (f (eqb→eq a b t))) (λ t. eq→eqb (g (eqb→eq c d t)))

-- ---- the tests on lists, as membership
pub has→∈ : (s : ℕ) (l : List ℕ) → T (has s l) → s ∈ l
has→∈ s [] t = absurd t
has→∈ s (x ∷ xs) t =
    ⊎_elim (λ e. Memᴰ.head (eqb→eq s x e)) (λ h. Memᴰ.tail (has→∈ s xs h)) (or_e (eqb s x) (has s xs) t)

pub ∈→has : {s : ℕ} {l : List ℕ} → s ∈ l → T (has s l)
∈→has {s} (Memᴰ.head {x} {xs} e) = or_l (eqb s x) (has s xs) (subst (λ (y : ℕ). T (eqb s y)) e (eqb_refl s))
∈→has {s} (Memᴰ.tail {x} {xs} m) = or_r (eqb s x) (has s xs) (∈→has m)

pub has_all→∈ : (ss d : List ℕ) → T (has_all ss d) → (s : ℕ) → s ∈ ss → s ∈ d
has_all→∈ [] d t s m = absurd (Memᴰ.not-nil m)
has_all→∈ (x ∷ ss) d t s m =
    ⊎_elim (λ e. Memᴰ.cast e (has→∈ x d (and_l (has x d) (has_all ss d) t))) (λ m'. has_all→∈ ss d (and_r (has x d) (has_all ss d) t) s m')
    (Memᴰ.cases_cons m)

pub ∈→has_all : (ss d : List ℕ) → ((s : ℕ) → s ∈ ss → s ∈ d) → T (has_all ss d)
∈→has_all [] d f = tt
∈→has_all (x ∷ ss) d f =
    and_i (has x d) (has_all ss d) (∈→has (f x (Memᴰ.head refl))) (∈→has_all ss d (λ s m. f s (Memᴰ.tail m)))

pub keep_∈ : {A : Type 0} (p : A → Bool) (l : List A) {a : A} → a ∈ keep p l → (a ∈ l) × T (p a)
keep_∈ p [] m = absurd (Memᴰ.not-nil m)
keep_∈ {A} p (x ∷ l) {a} m = go (p x) (λ t. t) (λ k. keep_∈ p l k) m
  where
    go : (b : Bool) → (T b → T (p x)) → (a ∈ keep p l → (a ∈ l) × T (p a)) → a ∈ cond b (x ∷ keep p l) (keep p l) → (a ∈ x ∷ l) × T (p a)
    go true f ih m =
        ⊎_elim (λ e. (Memᴰ.head e, subst (λ (y : A). T (p y)) (sym e) (f tt))) (λ k. (Memᴰ.tail (ih k).0, (ih k).1)) (Memᴰ.cases_cons m)
    go false f ih m = (Memᴰ.tail (ih m).0, (ih m).1)

pub ∈_keep : {A : Type 0} (p : A → Bool) {a : A} {l : List A} → a ∈ l → T (p a) → a ∈ keep p l
∈_keep {A} p {a} {l} (Memᴰ.head {x} {xs} e) t = go (p x) (subst (λ (y : A). T (p y)) e t)
  where
    go : (b : Bool) → T b → a ∈ cond b (x ∷ keep p xs) (keep p xs)
    go true t = Memᴰ.head e
    go false t = absurd t
∈_keep p {a} {l} (Memᴰ.tail {x} {xs} m) t = go (p x) (∈_keep p m t)
  where
    go : (b : Bool) → a ∈ keep p xs → a ∈ cond b (x ∷ keep p xs) (keep p xs)
    go true k = Memᴰ.tail k
    go false k = k

-- `every` and `some?` as statements
pub every_∈ : {A : Type 0} (p : A → Bool) (l : List A) → T (every p l) → (a : A) → a ∈ l → T (p a)
every_∈ p [] t a m = absurd (Memᴰ.not-nil m)
every_∈ {A} p (x ∷ l) t a m =
    ⊎_elim (λ e. subst (λ (y : A). T (p y)) (sym e) (and_l (p x) (every p l) t)) (λ k. every_∈ p l (and_r (p x) (every p l) t) a k) (Memᴰ.cases_cons m)

pub ∈_every : {A : Type 0} (p : A → Bool) (l : List A) → ((a : A) → a ∈ l → T (p a)) → T (every p l)
∈_every p [] f = tt
∈_every p (a ∷ l) f = and_i (p a) (every p l) (f a (Memᴰ.head refl)) (∈_every p l (λ b k. f b (Memᴰ.tail k)))

pub some_∈ : {A : Type 0} (p : A → Bool) (l : List A) → T (some? p l) → (a : A) × (a ∈ l) × T (p a)
some_∈ p [] t = absurd t
some_∈ p (x ∷ l) t =
    ⊎_elim (λ h. (x, Memᴰ.head refl, h)) (λ h. let r = some_∈ p l h in (r.0, Memᴰ.tail r.1, r.2)) (or_e (p x) (some? p l) t)

pub ∈_some : {A : Type 0} (p : A → Bool) (l : List A) (a : A) → a ∈ l → T (p a) → T (some? p l)
∈_some p [] a m t = absurd (Memᴰ.not-nil m)
∈_some {A} p (x ∷ l) a m t =
    ⊎_elim (λ e. or_l (p x) (some? p l) (subst (λ (y : A). T (p y)) e t)) (λ k. or_r (p x) (some? p l) (∈_some p l a k t)) (Memᴰ.cases_cons m)

-- equal lists pass `same`, and only those
pub same_refl : (l : List ℕ) → T (same l l)
same_refl [] = tt
same_refl (a ∷ l) = and_i (eqb a a) (same l l) (eqb_refl a) (same_refl l)

pub same→eq : (l k : List ℕ) → T (same l k) → l ≡ k
same→eq [] [] t = refl
same→eq [] (b ∷ k) t = absurd t
same→eq (a ∷ l) [] t = absurd t
same→eq (a ∷ l) (b ∷ k) t = ap₂ ◌∷◌ (eqb→eq a b (and_l (eqb a b) (same l k) t)) (same→eq l k (and_r (eqb a b) (same l k) t))

-- each item is at most the greatest
pub greatest_≥ : {A : Type 0} (f : A → ℕ) (l : List A) (a : A) → a ∈ l → f a ≤ greatest f l
greatest_≥ f [] a m = absurd (Memᴰ.not-nil m)
greatest_≥ f (x ∷ l) a m = ⊎_elim (λ e. omega (arith, ap f e)) (λ k. omega (arith, greatest_≥ f l a k)) (Memᴰ.cases_cons m)

pub greatest_cong : {A : Type 0} (f g : A → ℕ) (l : List A) → ((a : A) → a ∈ l → f a ≡ g a) → greatest f l ≡ greatest g l
greatest_cong f g [] h = refl
greatest_cong f g (a ∷ l) h = ap₂ max (h a (Memᴰ.head refl)) (greatest_cong f g l (λ b k. h b (Memᴰ.tail k)))

-- two tests that agree on a list keep the same of it
pub keep_cong : {A : Type 0} (p q : A → Bool) (l : List A) → ((a : A) → a ∈ l → p a ≡ q a) → keep p l ≡ keep q l
keep_cong p q [] h = refl
keep_cong {A} p q (a ∷ l) h =
    ap₂ (λ (b : Bool) (k : List A). cond b (a ∷ k) k) (h a (Memᴰ.head refl)) (keep_cong p q l (λ b k. h b (Memᴰ.tail k)))

-- how many items a test keeps
pub keep_length : {A : Type 0} (p : A → Bool) (l : List A) → length (keep p l) ≤ length l
keep_length p [] = le_refl 0
keep_length p (x ∷ l) = go (p x) (keep_length p l)
  where
    go : (b : Bool) → length (keep p l) ≤ length l → length (cond b (x ∷ keep p l) (keep p l)) ≤ length (x ∷ l)
    go true h = omega arith
    go false h = omega arith

pub keep_fewer : {A : Type 0} (p q : A → Bool) → ((a : A) → T (q a) → T (p a)) → (l : List A) → length (keep q l) ≤ length (keep p l)
keep_fewer p q f [] = le_refl 0
keep_fewer p q f (x ∷ l) = go (p x) (q x) (f x) (keep_fewer p q f l)
  where
    go : (b c : Bool) → (T c → T b) → length (keep q l) ≤ length (keep p l)
        → length (cond c (x ∷ keep q l) (keep q l)) ≤ length (cond b (x ∷ keep p l) (keep p l))
    go true true g h = omega arith
    go true false g h = omega arith
    go false true g h = absurd (g tt)
    go false false g h = h

pub keep_loses : {A : Type 0} (p q : A → Bool) → ((a : A) → T (q a) → T (p a))
    → {a : A} {l : List A} → a ∈ l → T (p a) → (T (q a) → ⊥) → length (keep q l) < length (keep p l)
keep_loses p q f (Memᴰ.head {x} {xs} e) hp hq =
    go (p x) (q x) (subst (λ (y : _). T (p y)) e hp) (λ t. hq (subst (λ (y : _). T (q y)) (sym e) t)) (keep_fewer p q f xs)
  where
    go : (b c : Bool) → T b → (T c → ⊥) → length (keep q xs) ≤ length (keep p xs)
        → length (cond c (x ∷ keep q xs) (keep q xs)) < length (cond b (x ∷ keep p xs) (keep p xs))
    go true true g k h = absurd (k tt)
    go true false g k h = omega arith
    go false c g k h = absurd g
keep_loses p q f (Memᴰ.tail {x} {xs} m) hp hq = go (p x) (q x) (f x) (keep_loses p q f m hp hq)
  where
    go : (b c : Bool) → (T c → T b) → length (keep q xs) < length (keep p xs)
        → length (cond c (x ∷ keep q xs) (keep q xs)) < length (cond b (x ∷ keep p xs) (keep p xs))
    go true true g h = omega arith
    go true false g h = omega arith
    go false true g h = absurd (g tt)
    go false false g h = h

-- the same elements
abbrev pub Same : {A : Type 0} → List A → List A → Type 0
Same {A} S R = (a : A) → (a ∈ S → a ∈ R) × (a ∈ R → a ∈ S)
