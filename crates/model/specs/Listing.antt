-- What runs, and in which order, over any items that have a name, the names that they need, and a key.
-- `Order` puts deltas in their place. Nothing here knows of bytes.
use Rattle.std.specs.Prelude.{◌≡◌, ◌⊎◌, Bool, cond, not, ◌&&◌, List, [], ◌∷◌, ◌++◌, ℕ, zero, suc, length, T}
use Rattle.std.proofs.Math.Option.{Option, some, none}
use Rattle.model.specs.Lists.{◌∈◌, has, has_all, keep}

module _ {A : Type 0} (name : A → ℕ) where
  -- The names of the items placed one after the other, after the names `done`: the last one first. Of A1, A2 after none: A2, A1.
  abbrev pub after : List ℕ → List A → List ℕ
  after done [] = done
  after done (a ∷ l) = after (name a ∷ done) l

  -- An item, and what follows once it is placed, by the names that are placed then; nothing where there is none.
  abbrev pub place : (List ℕ → List A) → List ℕ → Option A → List A
  place rest done none = []
  place rest done (some a) = a ∷ rest (name a ∷ done)

-- The first of a list, as good as any.
abbrev pub any_of : {A : Type 0} → List A → Option A
any_of [] = none
any_of (a ∷ l) = some a

module _ {A : Type 0} {K : Type 0} (key : A → K) (less : K → K → Bool) where
  -- The first list is not after the second "when keys are compared place by place".
  abbrev pub NotAfter : List A → List A → Type 0
  NotAfter [] l = Unit {0}
  NotAfter (a ∷ k) [] = ⊥
  NotAfter (a ∷ k) (b ∷ l) = T (less (key a) (key b)) ⊎ ((key a ≡ key b) × NotAfter k l)

  -- The one of the lowest key.
  abbrev pub lower : A → Option A → Option A
  lower a none = some a
  lower a (some b) = cond (less (key b) (key a)) (some b) (some a)

  abbrev pub lowest_of : List A → Option A
  lowest_of [] = none
  lowest_of (a ∷ l) = lower a (lowest_of l)

module _ {A : Type 0} (name : A → ℕ) (needs : A → List ℕ) where
  -- May follow the names `done`: it is not among them, and all that it needs is.
  abbrev pub ready : List ℕ → A → Bool
  ready done a = not (has (name a) done) && has_all (needs a) done

  -- A listing that goes on after the names `done`: "without repeats", and "each one's needs come earlier".
  abbrev pub Listing : List ℕ → List A → Type 0
  Listing done [] = Unit {0}
  Listing done (a ∷ l) = T (ready done a) × Listing (name a ∷ done) l

  -- "executable exactly if there is a listing of received deltas, without repeats, that ends in it
  -- and in which each one's needs come earlier"
  pub record Executable (S : List A) (a : A) : Type 0 where
    pub before : List A
    pub received : (b : A) → b ∈ (before ++ a ∷ []) → b ∈ S
    pub listing : Listing [] (before ++ a ∷ [])

  -- "lists each executable delta once, needs before"
  pub record Complete (S l : List A) : Type 0 where
    pub listing : Listing [] l
    pub sound : (a : A) → a ∈ l → (a ∈ S) × Executable S a
    pub complete : (a : A) → a ∈ S → Executable S a → a ∈ l

  -- ---- reach
  -- The names that an item reaches: those that it needs, and those that a received item which it needs reaches.
  pub data Reaches (S : List A) : A → ℕ → Type 0 where
    needed : {a : A} {s : ℕ} → s ∈ needs a → Reaches S a s
    through : {a b : A} {s : ℕ} → b ∈ S → name b ∈ needs a → Reaches S b s → Reaches S a s

  -- Demand 2, "all it needs, step by step back, was received and contains no ring": all that it reaches is received,
  -- and neither it nor an item that it reaches reaches itself
  pub record Grounded (S : List A) (a : A) : Type 0 where
    pub received : (s : ℕ) → Reaches S a s → (b : A) × (b ∈ S) × (name b ≡ s)
    pub no_ring : Reaches S a (name a) → ⊥
    pub no_ring_behind : (b : A) → b ∈ S → Reaches S a (name b) → Reaches S b (name b) → ⊥

  -- ---- computed: of all that are ready a chosen one is placed, again and again, until none is ready
  -- A2 and A1 received (`ListingExamples`):  done          ready   placed
  --                                          none          A1      A1
  --                                          A1            A2      A2
  --                                          A2, A1        none    none: the listing is A1, A2
  abbrev pub grow : (List A → Option A) → List A → ℕ → List ℕ → List A
  grow choose S zero done = []
  grow choose S (suc n) done = place name (grow choose S n) done (choose (keep (ready done) S))

  -- Each executable item once: whichever is ready is placed.
  abbrev pub closure_of : List A → List A
  closure_of S = grow any_of S (length S) []

  module _ {K : Type 0} (key : A → K) (less : K → K → Bool) where
    -- "the first of all such listings"
    pub record First (S l : List A) : Type 0 where
      pub complete : Complete S l
      pub first : (k : List A) → Complete S k → NotAfter key less l k

    -- The same list, computed: the one of the lowest key is placed.
    abbrev pub first_of : List A → List A
    first_of S = grow (lowest_of key less) S (length S) []
