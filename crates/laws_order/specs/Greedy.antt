-- A list each of whose items is the next one where it is placed: the first listing begins with it, and where nothing can follow it is it.
use Rattle.std.specs.Prelude.{◌≡◌, refl, Bool, List, [], ◌∷◌, ◌++◌, ℕ, suc, ◌+◌, ◌-◌, length}
use Rattle.std.proofs.Common.{◌∙◌, ap, ⊎_elim, append-nil, arith, zero-add, suc-add}
use Rattle.std.proofs.Math.Option.{Option, some, none}
use mathlib.Core.List.Memᴰ
use Rattle.model.specs.Lists.{◌∈◌, keep}
use Rattle.model.specs.Listing.{after, ready, Listing, lowest_of, place, grow, first_of}
use Rattle.laws_order.specs.KeyOrder.{Total}
use Rattle.laws_order.specs.ListingLaws.{Stuck, Next, Next?, next_is, grow_ind, listing_length}

module _ {A : Type 0} (name : A → ℕ) (needs : A → List ℕ) {K : Type 0} (key : A → K) (less : K → K → Bool) (tot : Total less) (S : List A) where
  abbrev pub Greedy : List ℕ → List A → Type 0
  Greedy done [] = Unit {0}
  Greedy done (a ∷ l) = Next name needs key less tot S done a × Greedy (name a ∷ done) l

  pub grow_greedy : (n : ℕ) (done : List ℕ) → Greedy done (grow name needs (lowest_of key less) S n done)
  grow_greedy = grow_ind name needs key less tot S Greedy (λ d. tt) (λ d a l x ih. (x, ih))

  pub greedy_snoc : (l : List A) (done : List ℕ) (a : A) → Greedy done l → Next name needs key less tot S (after name done l) a → Greedy done (l ++ a ∷ [])
  greedy_snoc [] done a g x = (x, tt)
  greedy_snoc (b ∷ l) done a g x = (g.0, greedy_snoc l (name b ∷ done) a g.1 x)

  pub greedy_listing : (l : List A) (done : List ℕ) → Greedy done l → Listing name needs done l
  greedy_listing [] done g = tt
  greedy_listing (a ∷ l) done g = (g.0.is_ready, greedy_listing l (name a ∷ done) g.1)

  pub greedy_received : (l : List A) (done : List ℕ) → Greedy done l → (b : A) → b ∈ l → b ∈ S
  greedy_received [] done g b k = absurd (Memᴰ.not-nil k)
  greedy_received (a ∷ l) done g b k =
      let rest : b ∈ l → b ∈ S = greedy_received l (name a ∷ done) g.1 b in
      ⊎_elim (λ e. Memᴰ.cast e g.0.of) rest (Memᴰ.cases_cons k)

  -- nothing is placed where nothing can follow
  none_placed : (n : ℕ) (done : List ℕ) → Stuck name needs S done → grow name needs (lowest_of key less) S n done ≡ []
  none_placed = grow_ind name needs key less tot S (λ done l. Stuck name needs S done → l ≡ []) (λ done st. refl) (λ done a l x ih st. absurd (st a x.of x.is_ready))

  module _ (keys : (a b : A) → a ∈ S → b ∈ S → key a ≡ key b → a ≡ b) where
    -- the next one is placed
    grow_next : (n : ℕ) (done : List ℕ) (a : A) → Next name needs key less tot S done a → grow name needs (lowest_of key less) S (suc n) done ≡ a ∷ grow name needs (lowest_of key less) S n (name a ∷ done)
    grow_next n done a x = go (lowest_of key less (keep (ready name needs done) S)) (next_is name needs key less tot S done)
      where
        go : (o : Option A) → Next? name needs key less tot S done o → place name (grow name needs (lowest_of key less) S n) done o ≡ a ∷ grow name needs (lowest_of key less) S n (name a ∷ done)
        go none st = absurd (st a x.of x.is_ready)
        go (some b) y = ap (λ (c : A). c ∷ grow name needs (lowest_of key less) S n (name c ∷ done)) (keys b a y.of x.of
            (tot.tri (key b) (key a) (x.is_least b y.of y.is_ready) (y.is_least a x.of x.is_ready)))

    greedy_grows : (l : List A) (n : ℕ) (done : List ℕ) → Greedy done l → grow name needs (lowest_of key less) S (length l + n) done ≡ l ++ grow name needs (lowest_of key less) S n (after name done l)
    greedy_grows [] n done g = rw zero-add
    greedy_grows (a ∷ l) n done g =
        ap (λ (i : ℕ). grow name needs (lowest_of key less) S i done) (suc-add (length l) n)
        ∙ grow_next (length l + n) done a g.0 ∙ ap (λ (k : List A). a ∷ k) (greedy_grows l n (name a ∷ done) g.1)

    pub greedy_begins : (l : List A) → Greedy [] l → first_of name needs key less S ≡ l ++ grow name needs (lowest_of key less) S (length S - length l) (after name [] l)
    greedy_begins l g = ap (λ (i : ℕ). grow name needs (lowest_of key less) S i []) enough ∙ greedy_grows l (length S - length l) [] g
      where
        enough : length S ≡ length l + (length S - length l)
        enough = omega (arith, listing_length name needs S l (greedy_listing l [] g) (greedy_received l [] g))

    pub greedy_first : (l : List A) → Greedy [] l → Stuck name needs S (after name [] l) → first_of name needs key less S ≡ l
    greedy_first l g st = greedy_begins l g ∙ ap (λ (k : List A). l ++ k) (none_placed (length S - length l) (after name [] l) st) ∙ append-nil l
