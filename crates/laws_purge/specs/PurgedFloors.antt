-- A purge of the first deltas of a valid state's log: what is at or below a floor afterwards, which deltas are left, and what they need.
use Rattle.std.specs.Prelude.{◌≡◌, refl, ◌⊎◌, ◌↔◌, Bool, true, false, cond, ◌&&◌, List, [], ◌∷◌, ℕ, zero, suc, ◌+◌, ◌-◌, ◌%◌, ◌≤◌, ◌<◌, take, drop, eqb, ltb}
use Rattle.std.proofs.Common.{sym, ◌∙◌, subst, arith, take-append-drop, eqb→eq, ltb→lt, lt→ltb}
use Rattle.std.proofs.Math.Logic.{inl, inr, ⊎_elim}
use Rattle.std.proofs.Math.Bool.{not}
use mathlib.Core.List.Memᴰ
use Rattle.std.proofs.Math.Dec.{T, T_not, not_T}
use Rattle.model.specs.Lists.{◌∈◌, has, every}
use Rattle.model.specs.Message.{Message, sequence_of, line_of, number_of, predecessor_of, dependencies_of, needs_of, numbered, numbers_right, passes}
use Rattle.model.specs.Tops.{at_or_below}
use Rattle.model.specs.Order.{State, purged, Ascending, RightSet, sequences_of, needs, placed_by, Listing, log_of}
use Rattle.model.specs.Purge.{origin_past, purge_first}
use Rattle.laws_order.specs.TestLaws.{and_l, and_r, decide, not_eqb, eq→eqb, has→∈, ∈→has, keep_∈, ∈_keep, every_∈, some_∈, ∈_some}
use Rattle.laws_order.specs.Behind.{listing_front}
use Rattle.laws_order.specs.ListingLaws.{after_has, after_from, listing_closed}
use Rattle.laws_wire.specs.MessageLaws.{passes_numbers}
use Rattle.laws_origin.specs.TopLaws.{below_out, below_in}
use Rattle.laws_state.specs.SetLaws.{keep_ascending}
use Rattle.laws_state.specs.LogLaws.{log_complete}
use Rattle.laws_state.specs.FloorLaws.{needs_above}
use Rattle.laws_origin.specs.RaiseLaws.{below_self, raised_cover}

-- ---- a delta that passes has a number, and so has each that it needs
number_least : (s : ℕ) → T (numbered s) → 1 ≤ number_of s
number_least s t = let z : number_of s ≡ 0 → ⊥ = λ e. T_not (eqb (number_of s) 0) t (eq→eqb e) in omega arith

pub own_numbered : (m : Message) → T (passes m) → T (numbered (sequence_of m))
unfolding numbers_right
own_numbered m t = and_l (numbered (sequence_of m)) (every numbered (dependencies_of m)) (passes_numbers m t)

pub needs_numbered : (m : Message) → T (passes m) → (s : ℕ) → s ∈ needs_of m → T (numbered s)
unfolding numbers_right
needs_numbered m t s k = ⊎_elim predecessor dependency (Memᴰ.append_cases (predecessor_of (sequence_of m)) k)
  where
    numbers : T (numbered (sequence_of m) && every numbered (dependencies_of m))
    numbers = passes_numbers m t

    dependency : s ∈ dependencies_of m → T (numbered s)
    dependency = every_∈ numbered (dependencies_of m) (and_r (numbered (sequence_of m)) (every numbered (dependencies_of m)) numbers) s

    predecessor : s ∈ predecessor_of (sequence_of m) → T (numbered s)
    predecessor = go (ltb 1 (number_of (sequence_of m))) (ltb→lt 1 (number_of (sequence_of m)))
      where
        go : (b : Bool) → (T b → 1 < number_of (sequence_of m)) → s ∈ cond b ((sequence_of m - 1) ∷ []) [] → T (numbered s)
        go true f i =
            let h : 1 < sequence_of m % 65536 = f tt in
            let e : s ≡ sequence_of m - 1 = Memᴰ.eq_of_singleton i in
            let one : 1 ≤ number_of s = omega arith in
            not_T (eqb (number_of s) 0) (λ u. let z : ⊥ = omega (arith, eqb→eq (number_of s) 0 u) in absurd z)
        go false f i = absurd (Memᴰ.not-nil i)

-- ---- the sequences of some deltas, and those that are placed by them
pub placed_named : (l : List Message) (s : ℕ) → s ∈ placed_by l → s ∈ sequences_of l
placed_named l s k = ⊎_elim (λ q. absurd (Memᴰ.not-nil q)) (λ r. Memᴰ.cast (sym r.2) (Memᴰ.map sequence_of r.1)) (after_from sequence_of l [] k)

pub named_placed : (l : List Message) (s : ℕ) → s ∈ sequences_of l → s ∈ placed_by l
named_placed l s k = let r = Memᴰ.of_map sequence_of l k in Memᴰ.cast (sym r.2) (after_has sequence_of l [] r.1)

module _ (S : State) (right : RightSet S) (K : ℕ) where
  abbrev gone : List ℕ
  gone = sequences_of (take K (log_of S))

  gone_listing : Listing S [] (take K (log_of S))
  gone_listing =
      listing_front sequence_of (needs S) (take K (log_of S)) (drop K (log_of S)) []
      (subst (Listing S []) (sym (take-append-drop K (log_of S))) (log_complete S right.ascends).listing)

  -- the predecessor of one that is gone is gone too, unless it was at or below a floor before
  before_gone : (u : ℕ) → u ∈ gone → 1 < number_of u → T (not (purged S (u - 1))) → u - 1 ∈ gone
  before_gone u k second above =
      let r = Memᴰ.of_map sequence_of (take K (log_of S)) k in
      let wanted : u - 1 ∈ needs_of r.0 = Memᴰ.append_left (dependencies_of r.0)
      (subst (λ (s : ℕ). u - 1 ∈ predecessor_of s) (sym r.2) (first (ltb 1 (number_of u)) (lt→ltb 1 (number_of u) second))) in
      let needed : u - 1 ∈ needs S r.0 = (needs_above S r.0 (u - 1)).1 (wanted, T_not (purged S (u - 1)) above) in
      placed_named (take K (log_of S)) (u - 1)
      (listing_closed sequence_of (needs S) (take K (log_of S)) [] gone_listing r.0 r.1 (u - 1) needed)
    where
      first : (b : Bool) → T b → u - 1 ∈ cond b ((u - 1) ∷ []) []
      first true t = Memᴰ.head refl
      first false t = absurd t

  -- what was above the floors has no higher number of its line at or below one
  above_up : (t s : ℕ) → line_of t ≡ line_of s → number_of t ≤ number_of s → T (not (purged S t)) → T (not (purged S s))
  above_up t s line number clear = not_T (purged S s) (λ p.
      let f = some_∈ (λ top. at_or_below top s) S.origin.floors p in
      let o = below_out f.0 s f.2 in
      T_not (purged S t) clear (∈_some (λ top. at_or_below top t) S.origin.floors f.0 f.1 (below_in f.0 t (line ∙ o.0) (omega (arith, o.1)))))

  -- down a line: what is at or below one that is gone, and was above the floors, is gone too
  down : (n u t : ℕ) → u ≤ t + n → u ∈ gone → line_of t ≡ line_of u → t ≤ u → 1 ≤ number_of t → T (not (purged S t)) → t ∈ gone
  down zero u t h k e le one clear = let same : t ≡ u = omega arith in Memᴰ.cast same k
  down (suc n) u t h k e le one clear =
      ⊎_elim (λ q. Memᴰ.cast (eqb→eq t u q) k) (λ q. further (not_eqb t u q) (λ v i w x. down n (u - 1) t v i w x one clear)) (decide (eqb t u))
    where
      further : (t ≡ u → ⊥) → (u - 1 ≤ t + n → u - 1 ∈ gone → line_of t ≡ line_of (u - 1) → t ≤ u - 1 → t ∈ gone) → t ∈ gone
      further other ih =
          let lower : t < u = omega arith in
          let second : 1 < u % 65536 = omega arith in
          let line : line_of t ≡ line_of (u - 1) = omega arith in
          let number : number_of t ≤ number_of (u - 1) = omega arith in
          ih (omega arith) (before_gone u k second (above_up t (u - 1) line number clear)) line (omega arith)

  -- A number of a line is at or below a floor afterwards exactly if it was before, or is one of those that are gone.
  pub purged_after_lem : (s : ℕ) → T (numbered s) → T (purged (purge_first K S) s) ↔ (T (purged S s) ⊎ (s ∈ sequences_of (take K (log_of S))))
  unfolding purge_first origin_past
  purged_after_lem s one =
      let c = raised_cover gone S.origin.floors s in
      let under : (r : ℕ) × (r ∈ gone) × T (at_or_below r s) → T (not (purged S s)) → s ∈ gone = λ r clear.
      let o = below_out r.0 s r.2 in
      let le : s ≤ r.0 = omega (arith, o.0, o.1) in
      down r.0 r.0 s (omega arith) r.1 o.0 le (number_least s one) clear in (
        λ t. ⊎_elim inl (λ r. ⊎_elim inl (λ clear. inr (under r clear)) (decide (purged S s))) (c.0 t),
        ⊎_elim (λ t. c.1 (inl t)) (λ k. c.1 (inr (s, k, below_self s))),
      )

  -- ---- what is left
  pub left_is : (m : Message) → m ∈ (purge_first K S).deltas ↔ ((m ∈ S.deltas) × (sequence_of m ∈ sequences_of (take K (log_of S)) → ⊥))
  unfolding purge_first
  left_is m = (
    λ k. let r = keep_∈ (λ x. not (has (sequence_of x) gone)) S.deltas k in (r.0, λ j. T_not (has (sequence_of m) gone) r.1 (∈→has j)),
    λ r. ∈_keep (λ x. not (has (sequence_of x) gone)) r.0 (not_T (has (sequence_of m) gone) (λ t. r.1 (has→∈ (sequence_of m) gone t))),
  )

  pub left_ascends : Ascending (purge_first K S).deltas
  unfolding purge_first
  left_ascends = keep_ascending (λ x. not (has (sequence_of x) gone)) S.deltas right.ascends

  -- none of it is at or below a floor
  pub left_above : (m : Message) → m ∈ (purge_first K S).deltas → T (not (purged (purge_first K S) (sequence_of m)))
  left_above m k =
      let r = (left_is m).0 k in
      not_T (purged (purge_first K S) (sequence_of m)) (λ t. ⊎_elim (T_not (purged S (sequence_of m)) (right.above m r.0)) r.1
      ((purged_after_lem (sequence_of m) (own_numbered m (right.pass m r.0))).0 t))

  -- what was at or below a floor is it still
  pub purged_stays : (s : ℕ) → T (purged S s) → T (purged (purge_first K S) s)
  unfolding purge_first origin_past
  purged_stays s t = (raised_cover gone S.origin.floors s).1 (inl t)

  -- ---- what a delta that is left needs: less those that are gone
  module _ (m : Message) (k : m ∈ (purge_first K S).deltas) (s : ℕ) where
    pass : T (passes m)
    pass = right.pass m ((left_is m).0 k).0

    pub needs_fewer : s ∈ needs (purge_first K S) m → (s ∈ needs S m) × (s ∈ sequences_of (take K (log_of S)) → ⊥)
    needs_fewer j =
        let r = (needs_above (purge_first K S) m s).0 j in
        let after = purged_after_lem s (needs_numbered m pass s r.0) in
        ((needs_above S m s).1 (r.0, λ t. r.1 (after.1 (inl t))), λ i. r.1 (after.1 (inr i)))

    pub needs_others : s ∈ needs S m → (s ∈ sequences_of (take K (log_of S))) ⊎ (s ∈ needs (purge_first K S) m)
    needs_others j =
        let r = (needs_above S m s).0 j in
        ⊎_elim (λ t. ⊎_elim (λ u. absurd (r.1 u)) inl ((purged_after_lem s (needs_numbered m pass s r.0)).0 t))
        (λ t. inr ((needs_above (purge_first K S) m s).1 (r.0, T_not (purged (purge_first K S) s) t))) (decide (purged (purge_first K S) s))
