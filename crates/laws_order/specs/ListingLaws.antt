-- Laws of listings over any items that have a name, the names that they need, and a key under a strict total order:
-- whatever is placed while something is ready, all executable items are placed in the end; placed by the lowest key they are the
-- first of all complete listings, and there is one such.
use Rattle.std.specs.Prelude.{◌≡◌, refl, ◌⊎◌, Bool, true, false, cond, not, List, [], ◌∷◌, ◌++◌, ℕ, zero, suc, ◌+◌, ◌≤◌, ◌<◌, length, T, eqb}
use Rattle.std.proofs.Common.{sym, ◌∙◌, ap, ap₂, subst, inl, inr, ⊎_elim, zero-le, suc-le-suc, arith, le_trans, le_of_suc-le-suc, T_not}
use Rattle.std.proofs.Math.Option.{Option, some, none}
use mathlib.Core.List.Memᴰ
use Rattle.std.proofs.Math.Dec.{eqb_refl, not_T}
use Rattle.model.specs.Lists.{◌∈◌, has, has_all, keep}
use Rattle.model.specs.Listing as L
use Rattle.laws_order.specs.TestLaws.{and_l, and_r, and_i, or_l, nor_r, decide, has→∈, ∈→has, has_all→∈, ∈→has_all, keep_∈, ∈_keep, keep_length, keep_loses, Same}
use Rattle.laws_order.specs.KeyOrder.{Total}

not_mem_of_length_zero : {A : Type 0} (l : List A) → length l ≤ 0 → {a : A} → a ∈ l → ⊥
not_mem_of_length_zero [] h m = Memᴰ.not-nil m
not_mem_of_length_zero (x ∷ l) h m = omega arith

-- ---- the names that are placed
module _ {A : Type 0} (name : A → ℕ) where
  -- what stood there stays there
  pub after_keeps : (l : List A) (done : List ℕ) {s : ℕ} → s ∈ done → s ∈ L.after name done l
  after_keeps [] done m = m
  after_keeps (a ∷ l) done m = after_keeps l (name a ∷ done) (Memᴰ.tail m)

  pub after_has : {a : A} (l : List A) (done : List ℕ) → a ∈ l → name a ∈ L.after name done l
  after_has [] done m = absurd (Memᴰ.not-nil m)
  after_has {a} (b ∷ l) done m =
      ⊎_elim (λ e. after_keeps l (name b ∷ done) (Memᴰ.head (ap name e))) (λ m'. after_has l (name b ∷ done) m') (Memᴰ.cases_cons m)

  pub after_from : (l : List A) (done : List ℕ) {s : ℕ} → s ∈ L.after name done l → (s ∈ done) ⊎ ((a : A) × (a ∈ l) × (name a ≡ s))
  after_from [] done m = inl m
  after_from (b ∷ l) done {s} m = ⊎_elim one (λ r. inr (r.0, Memᴰ.tail r.1, r.2)) (after_from l (name b ∷ done) m)
    where
      one : s ∈ (name b ∷ done) → (s ∈ done) ⊎ ((a : A) × (a ∈ (b ∷ l)) × (name a ≡ s))
      one m' = ⊎_elim (λ e. inr (b, Memᴰ.head refl, sym e)) inl (Memᴰ.cases_cons m')

  pub after_snoc : (l : List A) (done : List ℕ) (a : A) → L.after name done (l ++ a ∷ []) ≡ name a ∷ L.after name done l
  after_snoc [] done a = refl
  after_snoc (b ∷ l) done a = after_snoc l (name b ∷ done) a

  -- not among the names
  abbrev pub fresh : List ℕ → A → Bool
  fresh done a = not (has (name a) done)

  fresh_fewer : (done : List ℕ) (a b : A) → T (fresh (name a ∷ done) b) → T (fresh done b)
  fresh_fewer done a b t = nor_r (eqb (name b) (name a)) (has (name b) done) t

  fresh_gone : (done : List ℕ) (a : A) → T (fresh (name a ∷ done) a) → ⊥
  fresh_gone done a t = T_not (has (name a) (name a ∷ done)) t (or_l (eqb (name a) (name a)) (has (name a) done) (eqb_refl (name a)))

-- ---- the one of the lowest key
module _ {A : Type 0} {K : Type 0} (key : A → K) (less : K → K → Bool) where
  abbrev pub Least : List A → Option A → Type 0
  Least l none = (b : A) → b ∈ l → ⊥
  Least l (some a) = (a ∈ l) × ((b : A) → b ∈ l → T (not (less (key b) (key a))))

module _ {K : Type 0} (less : K → K → Bool) (tot : Total less) where
  -- a is not after b
  pub not_after : (a b : K) → T (less a b) → T (not (less b a))
  not_after a b h = not_T (less b a) (λ t. tot.irr a (tot.trans a b a h t))

  pub not_self : (a : K) → T (not (less a a))
  not_self a = not_T (less a a) (tot.irr a)

  pub le_cases : (a b : K) → T (not (less b a)) → T (less a b) ⊎ (a ≡ b)
  le_cases a b h = ⊎_elim inl (λ t. inr (tot.tri a b t h)) (decide (less a b))

  lt_le : (x a b : K) → T (less x a) → T (not (less b a)) → T (less x b)
  lt_le x a b p h = ⊎_elim (λ t. tot.trans x a b p t) (λ e. subst (λ (y : K). T (less x y)) e p) (le_cases a b h)

module _ {A : Type 0} {K : Type 0} (key : A → K) (less : K → K → Bool) (tot : Total less) where
  least_more : (a b : A) (l : List A) → Least key less l (some b) → (c : Bool) → (T c → T (less (key b) (key a))) → (T (not c) → T (not (less (key b) (key a)))) → Least key less (a ∷ l) (cond c (some b) (some a))
  least_more a b l h true f g =
      (Memᴰ.tail h.0, λ x m. ⊎_elim (λ e. subst (λ (y : A). T (not (less (key y) (key b)))) (sym e) (not_after less tot (key b) (key a) (f tt))) (λ m'. h.1 x m') (Memᴰ.cases_cons m))
  least_more a b l h false f g = (
    Memᴰ.head refl,
    λ x m. ⊎_elim (λ e. subst (λ (y : A). T (not (less (key y) (key a)))) (sym e) (not_self less tot (key a)))
        (λ m'. not_T (less (key x) (key a)) (λ t. T_not (less (key x) (key b)) (h.1 x m') (lt_le less tot (key x) (key a) (key b) t (g tt)))) (Memᴰ.cases_cons m),
  )

  pub lowest_is : (l : List A) → Least key less l (L.lowest_of key less l)
  lowest_is [] = λ b m. Memᴰ.not-nil m
  lowest_is (a ∷ l) = go (L.lowest_of key less l) (lowest_is l)
    where
      go : (o : Option A) → Least key less l o → Least key less (a ∷ l) (L.lower key less a o)
      go none h = (Memᴰ.head refl, λ b m. ⊎_elim (λ e. subst (λ (y : A). T (not (less (key y) (key a)))) (sym e) (not_self less tot (key a))) (λ m'. absurd (h b m')) (Memᴰ.cases_cons m))
      go (some b) h = least_more a b l h (less (key b) (key a)) (λ t. t) (λ t. t)

-- ---- a choice: one of the list, and none only of an empty list
abbrev pub Chosen : {A : Type 0} → List A → Option A → Type 0
Chosen {A} l none = (b : A) → b ∈ l → ⊥
Chosen l (some a) = a ∈ l

abbrev pub Chooses : {A : Type 0} → (List A → Option A) → Type 0
Chooses {A} choose = (l : List A) → Chosen l (choose l)

pub any_chooses : {A : Type 0} → Chooses {A = A} L.any_of
any_chooses [] = λ b m. Memᴰ.not-nil m
any_chooses (a ∷ l) = Memᴰ.head refl

pub lowest_chooses : {A : Type 0} {K : Type 0} (key : A → K) (less : K → K → Bool) → Total less → Chooses (L.lowest_of key less)
lowest_chooses {A} key less tot l = go (L.lowest_of key less l) (lowest_is key less tot l)
  where
    go : (o : Option A) → Least key less l o → Chosen l o
    go none h = h
    go (some a) h = h.0

module _ {A : Type 0} (name : A → ℕ) (needs : A → List ℕ) where
  -- ---- facts of listings
  pub ready_fresh : (done : List ℕ) (a : A) → T (L.ready name needs done a) → T (not (has (name a) done))
  ready_fresh done a t = and_l (not (has (name a) done)) (has_all (needs a) done) t

  pub ready_needs : (done : List ℕ) (a : A) → T (L.ready name needs done a) → T (has_all (needs a) done)
  ready_needs done a t = and_r (not (has (name a) done)) (has_all (needs a) done) t

  -- one more at the end
  pub listing_snoc : (l : List A) (done : List ℕ) (a : A) → L.Listing name needs done l → T (L.ready name needs (L.after name done l) a) → L.Listing name needs done (l ++ a ∷ [])
  listing_snoc [] done a h t = (t, tt)
  listing_snoc (b ∷ l) done a h t = (h.0, listing_snoc l (name b ∷ done) a h.1 t)

  -- cut after one of it
  listing_cut : (done : List ℕ) (l : List A) {a : A} → L.Listing name needs done l → a ∈ l
      → (p : List A) × L.Listing name needs done (p ++ a ∷ []) × ((b : A) → b ∈ (p ++ a ∷ []) → b ∈ l)
  listing_cut done [] h m = absurd (Memᴰ.not-nil m)
  listing_cut done (x ∷ l) {a} h m = ⊎_elim here (λ k. there (listing_cut (name x ∷ done) l h.1 k)) (Memᴰ.cases_cons m)
    where
      Cut : Type 0
      Cut = (p : List A) × L.Listing name needs done (p ++ a ∷ []) × ((b : A) → b ∈ (p ++ a ∷ []) → b ∈ (x ∷ l))

      here : a ≡ x → Cut
      here e = ([], (subst (λ (y : A). T (L.ready name needs done y)) (sym e) h.0, tt), λ b k. Memᴰ.head (Memᴰ.eq_of_singleton k ∙ e))

      there : (p : List A) × L.Listing name needs (name x ∷ done) (p ++ a ∷ []) × ((b : A) → b ∈ (p ++ a ∷ []) → b ∈ l) → Cut
      there r = (x ∷ r.0, (h.0, r.1), λ b q. ⊎_elim (λ e. Memᴰ.head e) (λ q'. Memᴰ.tail (r.2 b q')) (Memᴰ.cases_cons q))

  fresh_lt : (S : List A) (done : List ℕ) (a : A) → a ∈ S → T (L.ready name needs done a) → length (keep (fresh name (name a ∷ done)) S) < length (keep (fresh name done) S)
  fresh_lt S done a m t = keep_loses (fresh name done) (fresh name (name a ∷ done)) (fresh_fewer name done a) m (ready_fresh done a t) (fresh_gone name done a)

  -- a listing of items of S is no longer than S
  listing_count : (S l : List A) (done : List ℕ) → L.Listing name needs done l → ((b : A) → b ∈ l → b ∈ S) → length l ≤ length (keep (fresh name done) S)
  listing_count S [] done h all = zero-le
  listing_count S (a ∷ l) done h all =
      le_trans (suc-le-suc (listing_count S l (name a ∷ done) h.1 (λ b m. all b (Memᴰ.tail m)))) (fresh_lt S done a (all a (Memᴰ.head refl)) h.0)

  -- what it leaves of S has room beside it
  pub listing_room : (S l : List A) (done : List ℕ) → L.Listing name needs done l → ((b : A) → b ∈ l → b ∈ S) → length l + length (keep (fresh name (L.after name done l)) S) ≤ length (keep (fresh name done) S)
  listing_room S [] done h all = omega arith
  listing_room S (a ∷ l) done h all =
      omega (arith, listing_room S l (name a ∷ done) h.1 (λ b m. all b (Memᴰ.tail m)), fresh_lt S done a (all a (Memᴰ.head refl)) h.0)

  pub listing_length : (S l : List A) → L.Listing name needs [] l → ((b : A) → b ∈ l → b ∈ S) → length l ≤ length S
  listing_length S l h all = le_trans (listing_count S l [] h all) (keep_length (fresh name []) S)

  -- the listing's last, and what stands before it
  pub listing_last : (l : List A) (done : List ℕ) (a : A) → L.Listing name needs done (l ++ a ∷ []) → L.Listing name needs done l × T (L.ready name needs (L.after name done l) a)
  listing_last [] done a h = (tt, h.0)
  listing_last (b ∷ l) done a h = ((h.0, (listing_last l (name b ∷ done) a h.1).0), (listing_last l (name b ∷ done) a h.1).1)

  -- the needs of a listed item are listed
  pub listing_closed : (l : List A) (done : List ℕ) → L.Listing name needs done l → (b : A) → b ∈ l → (s : ℕ) → s ∈ needs b → s ∈ L.after name done l
  listing_closed [] done h b k s j = absurd (Memᴰ.not-nil k)
  listing_closed (x ∷ l) done h b k s j =
      let rest : (b : A) → b ∈ l → (s : ℕ) → s ∈ needs b → s ∈ L.after name (name x ∷ done) l = λ b k s j. listing_closed l (name x ∷ done) h.1 b k s j in
      ⊎_elim (λ e. after_keeps name l (name x ∷ done) (Memᴰ.tail (has_all→∈ (needs x) done (ready_needs done x h.0) s (subst (λ (y : A). s ∈ needs y) e j))))
      (λ i. rest b i s j) (Memᴰ.cases_cons k)

  -- nothing of S can follow
  abbrev pub Stuck : List A → List ℕ → Type 0
  Stuck S done = (a : A) → a ∈ S → T (L.ready name needs done a) → ⊥

  -- then an item whose needs are there is there
  pub stuck_placed : (S : List A) (done : List ℕ) → Stuck S done → (a : A) → a ∈ S → ((s : ℕ) → s ∈ needs a → s ∈ done) → name a ∈ done
  stuck_placed S done st a k f = ⊎_elim (λ t. has→∈ (name a) done t)
      (λ t. absurd (st a k (and_i (not (has (name a) done)) (has_all (needs a) done) t (∈→has_all (needs a) done f)))) (decide (has (name a) done))

  pub stuck_holds : (S : List A) (e : List ℕ) → Stuck S e → (k : List A) (d : List ℕ) → ((s : ℕ) → s ∈ d → s ∈ e) → L.Listing name needs d k → ((b : A) → b ∈ k → b ∈ S) → (b : A) → b ∈ k → name b ∈ e
  stuck_holds S e st [] d sub h all b m = absurd (Memᴰ.not-nil m)
  stuck_holds S e st (a ∷ k) d sub h all b m =
      ⊎_elim (λ q. Memᴰ.cast (ap name q) first) (λ m'. stuck_holds S e st k (name a ∷ d) sub' h.1 (λ x q. all x (Memᴰ.tail q)) b m') (Memᴰ.cases_cons m)
    where
      first : name a ∈ e
      first = stuck_placed S e st a (all a (Memᴰ.head refl)) (λ s q. sub s (has_all→∈ (needs a) d (ready_needs d a h.0) s q))

      sub' : (s : ℕ) → s ∈ (name a ∷ d) → s ∈ e
      sub' s q = ⊎_elim (λ w. Memᴰ.cast w first) (λ q'. sub s q') (Memᴰ.cases_cons q)

  -- what is ready after a listing is executable
  pub ready_executable : (S l : List A) → L.Listing name needs [] l → ((b : A) → b ∈ l → b ∈ S) → (a : A) → a ∈ S → T (L.ready name needs (L.after name [] l) a) → L.Executable name needs S a
  ready_executable S l h all a m t = record {
    before = l;
    received = λ b q. ⊎_elim (λ k. all b k) (λ k. Memᴰ.cast (Memᴰ.eq_of_singleton k) m) (Memᴰ.append_cases l q);
    listing = listing_snoc l [] a h t;
  }

  pub complete_stuck : (S l : List A) → L.Complete name needs S l → Stuck S (L.after name [] l)
  complete_stuck S l f a m t =
      T_not (has (name a) (L.after name [] l)) (ready_fresh (L.after name [] l) a t)
      (∈→has (after_has name l [] (f.complete a m (ready_executable S l f.listing (λ b q. (f.sound b q).0) a m t))))

  -- a listing of S that nothing can follow is complete, where names tell the items of S apart
  pub stuck_complete : (S : List A) → ((a b : A) → a ∈ S → b ∈ S → name a ≡ name b → a ≡ b)
      → (l : List A) → L.Listing name needs [] l → ((b : A) → b ∈ l → b ∈ S) → Stuck S (L.after name [] l) → L.Complete name needs S l
  stuck_complete S names l h all stuck = record {
    listing = h;
    sound = λ a m. (all a m, ex a (listing_cut [] l h m));
    complete = λ a m e. there a m (after_from name l [] (stuck_holds S (L.after name [] l) stuck (e.before ++ a ∷ []) [] (λ s q. absurd (Memᴰ.not-nil q)) e.listing e.received a (Memᴰ.append_right e.before (Memᴰ.head refl))));
  }
    where
      there : (a : A) → a ∈ S → (name a ∈ []) ⊎ ((b : A) × (b ∈ l) × (name b ≡ name a)) → a ∈ l
      there a m (inl q) = absurd (Memᴰ.not-nil q)
      there a m (inr r) = Memᴰ.cast (names a r.0 m (all r.0 r.1) (sym r.2)) r.1

      ex : (a : A) → (p : List A) × L.Listing name needs [] (p ++ a ∷ []) × ((b : A) → b ∈ (p ++ a ∷ []) → b ∈ l) → L.Executable name needs S a
      ex a r = record { before = r.0; received = λ b m. all b (r.2 b m); listing = r.1 }

  -- complete listings of a set have the same items
  pub complete_items : (S l k : List A) → L.Complete name needs S l → L.Complete name needs S k → Same l k
  complete_items S l k p q = λ a. (λ m. let r = p.sound a m in q.complete a r.0 r.1, λ m. let r = q.sound a m in p.complete a r.0 r.1)

  -- ---- placing chosen ones until none is ready
  module _ (choose : List A → Option A) (chooses : Chooses choose) (S : List A) where
    -- one of S that is ready, or nothing is
    pub record IsNext (done : List ℕ) (a : A) : Type 0 where
      pub of : a ∈ S
      pub is_ready : T (L.ready name needs done a)

    abbrev pub IsNext? : List ℕ → Option A → Type 0
    IsNext? done none = Stuck S done
    IsNext? done (some a) = IsNext done a

    chosen_next : (done : List ℕ) → IsNext? done (choose (keep (L.ready name needs done) S))
    chosen_next done = go (choose (keep (L.ready name needs done) S)) (chooses (keep (L.ready name needs done) S))
      where
        go : (o : Option A) → Chosen (keep (L.ready name needs done) S) o → IsNext? done o
        go none h = λ b m t. h b (∈_keep (L.ready name needs done) m t)
        go (some a) h = record { of = (keep_∈ (L.ready name needs done) S h).0; is_ready = (keep_∈ (L.ready name needs done) S h).1 }

    pub grow_listing : (n : ℕ) (done : List ℕ) → L.Listing name needs done (L.grow name needs choose S n done)
    grow_listing zero done = tt
    grow_listing (suc n) done = go (λ d. grow_listing n d) (choose (keep (L.ready name needs done) S)) (chosen_next done)
      where
        go : ((d : List ℕ) → L.Listing name needs d (L.grow name needs choose S n d)) → (o : Option A) → IsNext? done o → L.Listing name needs done (L.place name (L.grow name needs choose S n) done o)
        go ih none h = tt
        go ih (some a) h = (h.is_ready, ih (name a ∷ done))

    pub grow_from : (n : ℕ) (done : List ℕ) (b : A) → b ∈ L.grow name needs choose S n done → b ∈ S
    grow_from zero done b m = absurd (Memᴰ.not-nil m)
    grow_from (suc n) done b m = go (λ d k. grow_from n d b k) (choose (keep (L.ready name needs done) S)) (chosen_next done) m
      where
        go : ((d : List ℕ) → b ∈ L.grow name needs choose S n d → b ∈ S) → (o : Option A) → IsNext? done o → b ∈ L.place name (L.grow name needs choose S n) done o → b ∈ S
        go ih none h k = absurd (Memᴰ.not-nil k)
        go ih (some a) h k = ⊎_elim (λ e. Memᴰ.cast e h.of) (λ j. ih (name a ∷ done) j) (Memᴰ.cases_cons k)

    -- enough fuel: one for each item that is not there yet
    grow_stuck : (n : ℕ) (done : List ℕ) → length (keep (fresh name done) S) ≤ n → Stuck S (L.after name done (L.grow name needs choose S n done))
    grow_stuck zero done h = λ a m t. absurd (not_mem_of_length_zero (keep (fresh name done) S) h (∈_keep (fresh name done) m (ready_fresh done a t)))
    grow_stuck (suc n) done h = go (λ d. grow_stuck n d) (choose (keep (L.ready name needs done) S)) (chosen_next done)
      where
        go : ((d : List ℕ) → length (keep (fresh name d) S) ≤ n → Stuck S (L.after name d (L.grow name needs choose S n d))) → (o : Option A) → IsNext? done o → Stuck S (L.after name done (L.place name (L.grow name needs choose S n) done o))
        go ih none x = x
        go ih (some a) x = ih (name a ∷ done) (le_of_suc-le-suc (le_trans (fresh_lt S done a x.of x.is_ready) h))

    pub grow_complete : ((a b : A) → a ∈ S → b ∈ S → name a ≡ name b → a ≡ b) → L.Complete name needs S (L.grow name needs choose S (length S) [])
    grow_complete names = stuck_complete S names (L.grow name needs choose S (length S) []) (grow_listing (length S) []) (grow_from (length S) []) (grow_stuck (length S) [] (keep_length (fresh name []) S))

  module _ {K : Type 0} (key : A → K) (less : K → K → Bool) (tot : Total less) (S : List A) where
    -- a is of S, ready, and of the least key of those
    pub record Next (done : List ℕ) (a : A) : Type 0 where
      pub of : a ∈ S
      pub is_ready : T (L.ready name needs done a)
      pub is_least : (b : A) → b ∈ S → T (L.ready name needs done b) → T (not (less (key b) (key a)))

    abbrev pub Next? : List ℕ → Option A → Type 0
    Next? done none = Stuck S done
    Next? done (some a) = Next done a

    pub next_is : (done : List ℕ) → Next? done (L.lowest_of key less (keep (L.ready name needs done) S))
    next_is done = go (L.lowest_of key less (keep (L.ready name needs done) S)) (lowest_is key less tot (keep (L.ready name needs done) S))
      where
        go : (o : Option A) → Least key less (keep (L.ready name needs done) S) o → Next? done o
        go none h = λ b m t. h b (∈_keep (L.ready name needs done) m t)
        go (some a) h = record {
          of = (keep_∈ (L.ready name needs done) S h.0).0;
          is_ready = (keep_∈ (L.ready name needs done) S h.0).1;
          is_least = λ b m t. h.1 b (∈_keep (L.ready name needs done) m t);
        }

    -- the one induction over the log
    pub grow_ind : (P : List ℕ → List A → Type 0) → ((done : List ℕ) → P done [])
        → ((done : List ℕ) (a : A) (l : List A) → Next done a → P (name a ∷ done) l → P done (a ∷ l))
        → (n : ℕ) (done : List ℕ) → P done (L.grow name needs (L.lowest_of key less) S n done)
    grow_ind P nil step zero done = nil done
    grow_ind P nil step (suc n) done = go (λ d. grow_ind P nil step n d) (L.lowest_of key less (keep (L.ready name needs done) S)) (next_is done)
      where
        go : ((d : List ℕ) → P d (L.grow name needs (L.lowest_of key less) S n d)) → (o : Option A) → Next? done o → P done (L.place name (L.grow name needs (L.lowest_of key less) S n) done o)
        go ih none h = nil done
        go ih (some a) h = step done a (L.grow name needs (L.lowest_of key less) S n (name a ∷ done)) h (ih (name a ∷ done))

    -- keys and names tell the items of S apart
    module _ (names : (a b : A) → a ∈ S → b ∈ S → name a ≡ name b → a ≡ b) (keys : (a b : A) → a ∈ S → b ∈ S → key a ≡ key b → a ≡ b) where
      pub first_complete : L.Complete name needs S (L.first_of name needs key less S)
      first_complete = grow_complete (L.lowest_of key less) (lowest_chooses key less tot) S names

      first_not_after : (n : ℕ) (done : List ℕ) (k : List A) → L.Listing name needs done k → ((b : A) → b ∈ k → b ∈ S) → Stuck S (L.after name done k) → L.NotAfter key less (L.grow name needs (L.lowest_of key less) S n done) k
      first_not_after = grow_ind (λ done l. (k : List A) → L.Listing name needs done k → ((b : A) → b ∈ k → b ∈ S) → Stuck S (L.after name done k) → L.NotAfter key less l k)
          (λ done k h all st. tt) step
        where
          step : (done : List ℕ) (a : A) (l : List A) → Next done a
              → ((k : List A) → L.Listing name needs (name a ∷ done) k → ((b : A) → b ∈ k → b ∈ S) → Stuck S (L.after name (name a ∷ done) k) → L.NotAfter key less l k)
              → (k : List A) → L.Listing name needs done k → ((b : A) → b ∈ k → b ∈ S) → Stuck S (L.after name done k) → L.NotAfter key less (a ∷ l) k
          step done a l x ih [] h all st = st a x.of x.is_ready
          step done a l x ih (b ∷ k) h all st = ⊎_elim inl (λ e. inr (e, again (ap name (keys a b x.of (all b (Memᴰ.head refl)) e)))) (le_cases less tot (key a) (key b) (x.is_least b (all b (Memᴰ.head refl)) h.0))
            where
              again : name a ≡ name b → L.NotAfter key less l k
              again q = ih k (subst (λ (s : ℕ). L.Listing name needs (s ∷ done) k) (sym q) h.1) (λ y w. all y (Memᴰ.tail w)) (subst (λ (s : ℕ). Stuck S (L.after name (s ∷ done) k)) (sym q) st)

      pub first_is : L.First name needs key less S (L.first_of name needs key less S)
      first_is = record {
        complete = first_complete;
        first = λ k f. first_not_after (length S) [] k f.listing (λ b m. (f.sound b m).0) (complete_stuck S k f);
      }

      -- there is one log
      not_after_antisym : (l k : List A) → ((a : A) → a ∈ l → a ∈ S) → ((a : A) → a ∈ k → a ∈ S) → L.NotAfter key less l k → L.NotAfter key less k l → l ≡ k
      not_after_antisym [] [] p q h g = refl
      not_after_antisym [] (b ∷ k) p q h g = absurd g
      not_after_antisym (a ∷ l) [] p q h g = absurd h
      not_after_antisym (a ∷ l) (b ∷ k) p q h g = go (not_after_antisym l k (λ x m. p x (Memᴰ.tail m)) (λ x m. q x (Memᴰ.tail m))) h g
        where
          go : (L.NotAfter key less l k → L.NotAfter key less k l → l ≡ k) → L.NotAfter key less (a ∷ l) (b ∷ k) → L.NotAfter key less (b ∷ k) (a ∷ l) → a ∷ l ≡ b ∷ k
          go ih (inl u) (inl v) = absurd (tot.irr (key a) (tot.trans (key a) (key b) (key a) u v))
          go ih (inl u) (inr v) = absurd (tot.irr (key a) (subst (λ (y : K). T (less (key a) y)) v.0 u))
          go ih (inr u) (inl v) = absurd (tot.irr (key b) (subst (λ (y : K). T (less (key b) y)) u.0 v))
          go ih (inr u) (inr v) = ap₂ ◌∷◌ (keys a b (p a (Memᴰ.head refl)) (q b (Memᴰ.head refl)) u.0) (ih u.1 v.1)

      pub first_unique : (l k : List A) → L.First name needs key less S l → L.First name needs key less S k → l ≡ k
      first_unique l k p q =
          not_after_antisym l k (λ a m. (p.complete.sound a m).0) (λ a m. (q.complete.sound a m).0) (p.first k q.complete) (q.first l p.complete)
