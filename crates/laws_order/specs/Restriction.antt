-- The first listing of a set, cut out of that of a larger set: it is the same, as long as its items have the same keys in both.
use Rattle.std.specs.Prelude.{◌≡◌, ◌↔◌, Bool, true, false, cond, not, List, [], ◌∷◌, ℕ, length, T}
use Rattle.std.proofs.Common.{sym, ⊎_elim, T_not}
use mathlib.Core.List.Memᴰ
use Rattle.std.proofs.Math.Dec.{not_T}
use Rattle.model.specs.Lists.{◌∈◌, has, has_all, keep}
use Rattle.model.specs.Listing.{after, ready, Executable, Complete, first_of}
use Rattle.laws_order.specs.TestLaws.{and_i, has→∈, ∈→has, has_all→∈, ∈→has_all, keep_∈, ∈_keep}
use Rattle.laws_order.specs.KeyOrder.{Total}
use Rattle.laws_order.specs.ListingLaws.{Stuck, stuck_placed, complete_stuck, listing_closed, Next, first_complete, ready_fresh, ready_needs, after_has, after_from}
use Rattle.laws_order.specs.Greedy.{Greedy, grow_greedy, greedy_first}

module _ {A : Type 0} (name : A → ℕ) (needs : A → List ℕ) {K : Type 0} (less : K → K → Bool) (tot : Total less) where
  -- Items S and a larger set R: each item of the first listing of S has the same key in both. That listing keeps to what its items need, so
  -- that nothing else of R is needed for it.
  pub record Larger (key key' : A → K) (S R : List A) : Type 0 where
    pub names : (a b : A) → a ∈ R → b ∈ R → name a ≡ name b → a ≡ b
    pub keys : (a b : A) → a ∈ S → b ∈ S → key a ≡ key b → a ≡ b
    pub keys' : (a b : A) → a ∈ R → b ∈ R → key' a ≡ key' b → a ≡ b
    pub more : (a : A) → a ∈ S → a ∈ R
    pub agree : (a : A) → a ∈ first_of name needs key less S → key' a ≡ key a

  -- p tells the items of the smaller set's listing from the others
  module _ (key key' : A → K) (S R : List A) (x : Larger key key' S R) (p : A → Bool)
      (tells : (a : A) → a ∈ R → T (p a) ↔ (a ∈ first_of name needs key less S)) where
    abbrev L : List A
    L = first_of name needs key less S

    abbrev N : List A
    N = first_of name needs key' less R

    full : Complete name needs S L
    full = first_complete name needs key less tot S (λ a b i j. x.names a b (x.more a i) (x.more b j)) x.keys

    full' : Complete name needs R N
    full' = first_complete name needs key' less tot R x.names x.keys'

    -- an item of the larger set that has the name of a listed one is that one
    named_in : (a : A) → a ∈ R → name a ∈ after name [] L → a ∈ L
    named_in a k j = ⊎_elim (λ q. absurd (Memᴰ.not-nil q))
        (λ r. Memᴰ.cast (x.names a r.0 k (x.more r.0 (full.sound r.0 r.1).0) (sym r.2)) r.1) (after_from name L [] j)

    -- what is ready after listed names is listed
    ready_in : (d : List ℕ) → ((s : ℕ) → s ∈ d → s ∈ after name [] L) → (b : A) → b ∈ S → T (ready name needs d b) → b ∈ L
    ready_in d sub b k t = named_in b (x.more b k) (stuck_placed name needs S (after name [] L) (complete_stuck name needs S L full) b k
        (λ s j. sub s (has_all→∈ (needs b) d (ready_needs name needs d b t) s j)))

    -- While the larger set's listing is placed: `done` is placed, and `d` is what of it the smaller set's listing has.
    record Beside (done d : List ℕ) : Type 0 where
      within : (s : ℕ) → s ∈ d → s ∈ done
      named : (s : ℕ) → s ∈ d → s ∈ after name [] L
      mine : (s : ℕ) → s ∈ done → s ∈ after name [] L → s ∈ d

    -- the next one there, where it is listed, is the next one here
    next_too : (done d : List ℕ) → Beside done d → (a : A) → Next name needs key' less tot R done a → a ∈ L → Next name needs key less tot S d a
    next_too done d b a n k = record {
      of = (full.sound a k).0;
      is_ready = and_i (not (has (name a) d)) (has_all (needs a) d)
          (not_T (has (name a) d) (λ t. T_not (has (name a) done) (ready_fresh name needs done a n.is_ready) (∈→has (b.within (name a) (has→∈ (name a) d t)))))
          (∈→has_all (needs a) d (λ s j. b.mine s (has_all→∈ (needs a) done (ready_needs name needs done a n.is_ready) s j) (listing_closed name needs L [] full.listing a k s j)));
      is_least = least;
    }
      where
        least : (c : A) → c ∈ S → T (ready name needs d c) → T (not (less (key c) (key a)))
        least c j t =
            let i : c ∈ L = ready_in d b.named c j t in
            let fresh : T (not (has (name c) done)) = not_T (has (name c) done) (λ u.
            T_not (has (name c) d) (ready_fresh name needs d c t) (∈→has (b.mine (name c) (has→∈ (name c) done u) (after_has name L [] i)))) in
            let all : T (has_all (needs c) done) = ∈→has_all (needs c) done (λ s q. b.within s (has_all→∈ (needs c) d (ready_needs name needs d c t) s q)) in
            rw (x.agree a k, x.agree c i) at (n.is_least c (x.more c j) (and_i (not (has (name c) done)) (has_all (needs c) done) fresh all))

    beside_listed : (done d : List ℕ) → Beside done d → (a : A) → a ∈ L → Beside (name a ∷ done) (name a ∷ d)
    beside_listed done d b a k = record {
      within = λ s j. ⊎_elim (λ e. Memᴰ.head e) (λ i. Memᴰ.tail (b.within s i)) (Memᴰ.cases_cons j);
      named = λ s j. ⊎_elim (λ e. Memᴰ.cast e (after_has name L [] k)) (λ i. b.named s i) (Memᴰ.cases_cons j);
      mine = λ s j q. ⊎_elim (λ e. Memᴰ.head e) (λ i. Memᴰ.tail (b.mine s i q)) (Memᴰ.cases_cons j);
    }

    beside_other : (done d : List ℕ) → Beside done d → (a : A) → a ∈ R → ¬ (a ∈ L) → Beside (name a ∷ done) d
    beside_other done d b a k n = record {
      within = λ s j. Memᴰ.tail (b.within s j);
      named = b.named;
      mine = λ s j q. ⊎_elim (λ e. absurd (n (named_in a k (Memᴰ.cast (sym e) q)))) (λ i. b.mine s i q) (Memᴰ.cases_cons j);
    }

    kept : (l : List A) (done d : List ℕ) → Beside done d → Greedy name needs key' less tot R done l → Greedy name needs key less tot S d (keep p l)
    kept [] done d b g = tt
    kept (a ∷ l) done d b g =
        let told = tells a g.0.of in
        go (p a) told.0 (λ t k. T_not (p a) t (told.1 k)) (λ d' b'. kept l (name a ∷ done) d' b' g.1)
      where
        go : (c : Bool) → (T c → a ∈ L) → (T (not c) → ¬ (a ∈ L))
            → ((d' : List ℕ) → Beside (name a ∷ done) d' → Greedy name needs key less tot S d' (keep p l))
            → Greedy name needs key less tot S d (cond c (a ∷ keep p l) (keep p l))
        go true f h ih = (next_too done d b a g.0 (f tt), ih (name a ∷ d) (beside_listed done d b a (f tt)))
        go false f h ih = ih d (beside_other done d b a g.0.of (h tt))

    -- and all of it is there
    executable_too : (a : A) → Executable name needs S a → Executable name needs R a
    executable_too a e = record { before = e.before; received = λ b k. x.more b (e.received b k); listing = e.listing }

    kept_all : (a : A) → a ∈ L → a ∈ keep p N
    kept_all a k =
        let r = full.sound a k in
        let there : a ∈ R = x.more a r.0 in
        ∈_keep p (full'.complete a there (executable_too a r.1)) ((tells a there).1 k)

    kept_named : (s : ℕ) → s ∈ after name [] (keep p N) → s ∈ after name [] L
    kept_named s j = ⊎_elim (λ q. absurd (Memᴰ.not-nil q)) (λ r.
        let k = keep_∈ p N r.1 in
        Memᴰ.cast (sym r.2) (after_has name L [] ((tells r.0 (full'.sound r.0 k.0).0).0 k.1))) (after_from name (keep p N) [] j)

    kept_stuck : Stuck name needs S (after name [] (keep p N))
    kept_stuck a k t =
        T_not (has (name a) (after name [] (keep p N))) (ready_fresh name needs (after name [] (keep p N)) a t)
        (∈→has (after_has name (keep p N) [] (kept_all a (ready_in (after name [] (keep p N)) kept_named a k t))))

    -- The listing of the smaller set is that of the larger one, with the other items left out.
    pub restriction : keep p (first_of name needs key' less R) ≡ first_of name needs key less S
    restriction = sym (greedy_first name needs key less tot S x.keys (keep p N) (kept N [] [] start (grow_greedy name needs key' less tot R (length R) [])) kept_stuck)
      where
        start : Beside [] []
        start = record { within = λ s j. j; named = λ s j. absurd (Memᴰ.not-nil j); mine = λ s j q. j }
