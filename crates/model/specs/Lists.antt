-- Membership, and the tests on lists that the definitions compute with.
use Rattle.std.specs.Prelude.{Bool, true, false, cond, ◌&&◌, ◌||◌, ℕ, ◌+◌, max, eqb, ltb}
use mathlib.Core.List.{List, [], ◌∷◌, Memᴰ}

infix 40 ◌∈◌
abbrev pub ◌∈◌ {ℓ} : {A : Type ℓ} → A → List A → Type ℓ
a ∈ l = Memᴰ a l

-- Whether a number stands in a list.
abbrev pub has : ℕ → List ℕ → Bool
has s [] = false
has s (x ∷ l) = eqb s x || has s l

-- Whether every number of the first list stands in the second.
abbrev pub has_all : List ℕ → List ℕ → Bool
has_all [] l = true
has_all (s ∷ ss) l = has s l && has_all ss l

-- Whether every item passes a test.
abbrev pub every : {A : Type 0} → (A → Bool) → List A → Bool
every p [] = true
every p (a ∷ l) = p a && every p l

-- Whether some item passes a test.
abbrev pub some? : {A : Type 0} → (A → Bool) → List A → Bool
some? p [] = false
some? p (a ∷ l) = p a || some? p l

-- The items that pass a test, in their order.
abbrev pub keep : {A : Type 0} → (A → Bool) → List A → List A
keep p [] = []
keep p (a ∷ l) = cond (p a) (a ∷ keep p l) (keep p l)

-- The greatest of f over a list; 0 of an empty one.
abbrev pub greatest : {A : Type 0} → (A → ℕ) → List A → ℕ
greatest f [] = 0
greatest f (a ∷ l) = max (f a) (greatest f l)

-- The sum of f over a list.
abbrev pub sum : {A : Type 0} → (A → ℕ) → List A → ℕ
sum f [] = 0
sum f (a ∷ l) = f a + sum f l

-- Whether two lists of numbers are equal.
abbrev pub same : List ℕ → List ℕ → Bool
same [] [] = true
same [] (b ∷ k) = false
same (a ∷ l) [] = false
same (a ∷ l) (b ∷ k) = eqb a b && same l k

-- Whether a list of numbers ascends strictly.
abbrev pub ascending : List ℕ → Bool
ascending [] = true
ascending (a ∷ []) = true
ascending (a ∷ b ∷ l) = ltb a b && ascending (b ∷ l)
