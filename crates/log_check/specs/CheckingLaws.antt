-- A log whose deltas are ready one after the other, each above those from the place on from which it was ready, and which leaves
-- none ready, is the log of the set; and the log of the set passes each of these tests.
use Rattle.std.specs.Prelude.{◌≡◌, refl, ◌⊎◌, true, false, ℕ, ◌+◌, ◌≤◌, ◌<◌, max, length, take, set, replicate, T, eqb}
use Rattle.std.proofs.Common.{sym, ◌∙◌, ap₂, inl, inr, ⊎_elim, arith, add-one, length-set, get_or-set_same, get_or-set_other, take-suc, take_all, T_not, eqb→eq}
use Rattle.std.proofs.Math.Path.{ap, subst}
use mathlib.Core.List.{List, [], ◌∷◌, ◌++◌, map, map-append}
use Rattle.std.proofs.Math.ListN.{get_or}
use Rattle.std.proofs.lemmas.List.{length-map, length-replicate}
use Rattle.model.specs.Lists.{◌∈◌, has, greatest}
use Rattle.model.specs.Layout.{capacity}
use Rattle.model.specs.Message.{Message, sequence_of}
use Rattle.model.specs.Listing as L
use Rattle.model.specs.Order.{State, RightSet, sequences_of, needs, placed_by, ready, Listing, Executable, key_of, less, log_of}
use Rattle.laws_order.specs.ListLaws.{get_d_∈, get_d_map, greatest_≤, take_map}
use Rattle.laws_order.specs.TestLaws.{decide, ∈→has, has_all→∈, greatest_≥, not_eqb}
use Rattle.laws_order.specs.KeyOrder.{less_total}
use Rattle.laws_order.specs.ListingLaws.{Stuck, ready_fresh, ready_needs, complete_stuck, stuck_complete}
use Rattle.laws_order.specs.ListingPlaces.{below, after_take, listing_at, listing_apart, ready_at}
use Rattle.laws_order.specs.InPlace.{InPlace, first_in_place, in_place_first}
use Rattle.laws_state.specs.SetLaws.{ascending_names}
use Rattle.laws_state.specs.LogLaws.{keys_differ, log_complete}
use Rattle.set_table.specs.Table.{deltas_at}
use Rattle.set_needs.specs.Names.{index_of}
use Rattle.set_needs.specs.IndexLaws.{index_here}
use Rattle.set_needs.specs.NameLaws.{sequence_at, set_ascends}
use Rattle.set_needs.specs.Rows.{row_in, RowsRight}
use Rattle.set_readiness.specs.Ready.{marks_size, ready_in, greatest_along, Placing}
use Rattle.set_readiness.specs.ReadyLaws.{greatest_named, ready_is, idle_stuck}
use Rattle.set_closure.specs.ClosingLaws.{placing_none, placing_more}
use Rattle.log_prepared.specs.Keys.{KeysRight}
use Rattle.log_check.specs.Above.{key_at, Comparable, Above}
use Rattle.log_check.specs.Waiting.{ready_from, AnyReady}
use Rattle.log_check.specs.Checking.{Inside, Checking}

last_or : (q k : ℕ) → q < k + 1 → (q ≡ k) ⊎ (q < k)
last_or q k h = ⊎_elim (λ t. inl (eqb→eq q k t)) (λ t. inr (let other : q ≡ k → ⊥ = not_eqb q k t in omega arith)) (decide (eqb q k))

module _ (S : State) (right : RightSet S) (places : List ℕ) (within : Inside S places) where
  -- the deltas at the places, and how they are taken one after the other
  abbrev log : List Message
  log = deltas_at S.deltas places

  take_deltas : (k : ℕ) → take k log ≡ deltas_at S.deltas (take k places)
  take_deltas k = take_map k (λ i. get_or S.deltas i []) places

  delta_at_place : (k : ℕ) → k < length places → get_or log k [] ≡ get_or S.deltas (get_or places k 0) []
  delta_at_place k h = get_d_map (λ i. get_or S.deltas i []) places k 0 [] h

  place_inside : (k : ℕ) → k < length places → get_or places k 0 < length S.deltas
  place_inside k h = within.small (get_or places k 0) (get_d_∈ places k 0 h)

  -- the index of the sequence of the delta at a place
  index_at : (j : ℕ) → j < length places → (s : ℕ) → sequence_of (get_or log j []) ≡ s → index_of (sequences_of S.deltas) s ≡ get_or places j 0
  index_at j h s e = sym (index_here (sequences_of S.deltas) (set_ascends S.deltas right.ascends) s (get_or places j 0)
      (omega (arith, place_inside j h, length-map S.deltas sequence_of))
      (sequence_at S.deltas (get_or places j 0) ∙ ap sequence_of (sym (delta_at_place j h)) ∙ e))

  -- a sequence below a place stands at a place
  placed_below : (q s : ℕ) → s ∈ placed_by (deltas_at S.deltas (take q places)) → (j : ℕ) × (j < q) × (j < length places) × (sequence_of (get_or log j []) ≡ s)
  placed_below q s m =
      let r = (after_take sequence_of (needs S) [] log q s).0 (subst (λ (l : List Message). s ∈ placed_by l) (sym (take_deltas q)) m) in
      (r.0, r.1, omega (arith, length-map places (λ (i : ℕ). get_or S.deltas i []), r.2), r.3)

  -- ---- where these places are the log
  log_listing : log ≡ log_of S → Listing S [] log
  log_listing e = subst (Listing S []) (sym e) (log_complete S right.ascends).listing

  log_in_place : log ≡ log_of S → InPlace sequence_of (needs S) [] (key_of S) less log
  unfolding log_of
  log_in_place e = subst (InPlace sequence_of (needs S) [] (key_of S) less) (sym e) (first_in_place sequence_of (needs S) [] (key_of S) less less_total S.deltas (keys_differ S right.ascends))

  module _ (rows counts : List ℕ) (rr : RowsRight S rows counts) (keys : List ℕ) (kr : KeysRight S keys) where
    -- the keys at the places of two executable deltas are compared as theirs are
    compared : (j q : ℕ) → j < length places → q < length places → Executable S (get_or log j []) → Executable S (get_or log q [])
        → less (key_at keys places j) (key_at keys places q) ≡ less (key_of S (get_or log j [])) (key_of S (get_or log q []))
    compared j q u v x y =
        kr.compared (get_or places j 0) (get_or places q 0) (place_inside j u) (place_inside q v) (subst (Executable S) (delta_at_place j u) x) (subst (Executable S) (delta_at_place q v) y)
        ∙ ap₂ (λ (a b : Message). less (key_of S a) (key_of S b)) (sym (delta_at_place j u)) (sym (delta_at_place q v))

    -- the delta at a place of the log is executable
    logged : log ≡ log_of S → (q : ℕ) → q < length places → Executable S (get_or log q [])
    logged e q h = ((log_complete S right.ascends).sound (get_or log q []) (subst (λ (l : List Message). get_or log q [] ∈ l) e (get_d_∈ log q [] (omega (arith, length-map places (λ (x : ℕ). get_or S.deltas x [])))))).1

    pub checking_none : Checking S keys places (replicate marks_size 0) (replicate marks_size 0) (replicate capacity 0) 0
    checking_none = record {
      inside = omega arith;
      placing = placing_none S right;
      ends_size = length-replicate {A = ℕ} marks_size 0;
      ended = λ j h. let z : ⊥ = omega arith in absurd z;
      froms_size = length-replicate {A = ℕ} capacity 0;
      below = λ q h. let z : ⊥ = omega arith in absurd z;
      sorted = λ q h. let z : ⊥ = omega arith in absurd z;
      from = λ q h. let z : ⊥ = omega arith in absurd z;
    }

    module _ (placed ends froms : List ℕ) (k : ℕ) (c : Checking S keys places placed ends froms k) where
      abbrev i : ℕ
      i = get_or places k 0

      abbrev so_far : List Message
      so_far = deltas_at S.deltas (take k places)

      abbrev start : ℕ
      start = ready_from rows counts ends (get_or places k 0)

      pub comparable : k < length places → Comparable keys places froms k
      comparable h = record {
        keyed = kr.size;
        inside = h;
        small = λ q r. omega (arith, place_inside q r, right.fits);
        room = omega (arith, within.few, c.froms_size);
        below = c.below;
        sorted = c.sorted;
      }

      module _ (more : k < length places) where
        -- where a need of the delta stands, by `ends`
        end_of : (j : ℕ) → j < k → (s : ℕ) → sequence_of (get_or log j []) ≡ s → get_or ends (index_of (sequences_of S.deltas) s) 0 ≡ j + 1
        end_of j h s e = ap (λ (x : ℕ). get_or ends x 0) (index_at j (omega (arith, c.inside)) s e) ∙ c.ended j h

        row_is : row_in rows counts (get_or places k 0) ≡ map (index_of (sequences_of S.deltas)) (needs S (get_or S.deltas (get_or places k 0) []))
        row_is = rr.row (get_or places k 0) (place_inside k more)

        start_is : start ≡ max 0 (greatest (λ s. get_or ends (index_of (sequences_of S.deltas) s) 0) (needs S (get_or S.deltas (get_or places k 0) [])))
        unfolding greatest_along
        start_is = ap (max 0) (ap (greatest (λ j. get_or ends j 0)) row_is
            ∙ greatest_named (λ j. get_or ends j 0) (λ s. get_or ends (index_of (sequences_of S.deltas) s) 0) (index_of (sequences_of S.deltas)) (needs S (get_or S.deltas (get_or places k 0) [])) (λ s m. refl))

        -- a place at which the delta was ready is at or behind `start`
        start_least : (j : ℕ) → j < k → T (ready S (placed_by (deltas_at S.deltas (take j places))) (get_or S.deltas (get_or places k 0) [])) → start ≤ j
        start_least j h t =
            let least : greatest (λ s. get_or ends (index_of (sequences_of S.deltas) s) 0) (needs S (get_or S.deltas (get_or places k 0) [])) ≤ j =
            greatest_≤ (λ s. get_or ends (index_of (sequences_of S.deltas) s) 0) (needs S (get_or S.deltas (get_or places k 0) [])) j (λ s m.
            let r = placed_below j s (has_all→∈ (needs S (get_or S.deltas (get_or places k 0) [])) (placed_by (deltas_at S.deltas (take j places))) (ready_needs sequence_of (needs S) (placed_by (deltas_at S.deltas (take j places))) (get_or S.deltas (get_or places k 0) []) t) s m) in
            omega (arith, end_of r.0 (omega (arith, r.1)) s r.3, r.1)) in
            omega (arith, start_is)

        -- from `start` on it was ready
        start_ready : T (ready S (placed_by so_far) (get_or S.deltas (get_or places k 0) [])) → (s : ℕ) → s ∈ needs S (get_or S.deltas (get_or places k 0) [])
            → (q : ℕ) → start ≤ q → s ∈ below sequence_of log q
        start_ready t s m q h =
            let n = has_all→∈ (needs S (get_or S.deltas (get_or places k 0) [])) (placed_by so_far) (ready_needs sequence_of (needs S) (placed_by so_far) (get_or S.deltas (get_or places k 0) []) t) s m in
            let r = placed_below k s n in
            (after_take sequence_of (needs S) [] log q s).1 (
              r.0,
              omega (arith, end_of r.0 r.1 s r.3, start_is, greatest_≥ (λ u. get_or ends (index_of (sequences_of S.deltas) u) 0) (needs S (get_or S.deltas (get_or places k 0) [])) s m),
              omega (arith, length-map places (λ (x : ℕ). get_or S.deltas x []), r.2),
              r.3,
            )

        is_ready : ready_in rows counts placed (get_or places k 0) ≡ ready S (placed_by so_far) (get_or S.deltas (get_or places k 0) [])
        is_ready = ready_is S placed so_far c.placing rows counts rr (get_or places k 0) (place_inside k more)

        pub start_small : T (ready S (placed_by so_far) (get_or S.deltas (get_or places k 0) [])) → start ≤ k
        start_small t = omega (
          arith,
          start_is,
          greatest_≤ (λ s. get_or ends (index_of (sequences_of S.deltas) s) 0) (needs S (get_or S.deltas (get_or places k 0) [])) k (λ s m.
              let r = placed_below k s (has_all→∈ (needs S (get_or S.deltas (get_or places k 0) [])) (placed_by so_far) (ready_needs sequence_of (needs S) (placed_by so_far) (get_or S.deltas (get_or places k 0) []) t) s m) in
              omega (arith, end_of r.0 r.1 s r.3, r.1)),
        )

        -- ---- the delta is ready, and above those that it has to be above
        module _ (yes : ready_in rows counts placed (get_or places k 0) ≡ true) where
          pub now_ready : T (ready S (placed_by so_far) (get_or S.deltas (get_or places k 0) []))
          now_ready = subst T (sym yes ∙ is_ready) tt

          -- it does not stand at an earlier place
          apart : (j : ℕ) → j < k → get_or places j 0 ≡ get_or places k 0 → ⊥
          apart j h e =
              T_not (has s (placed_by so_far)) (ready_fresh sequence_of (needs S) (placed_by so_far) (get_or S.deltas (get_or places k 0) []) now_ready)
              (∈→has (subst (λ (l : List Message). s ∈ placed_by l) (take_deltas k) ((after_take sequence_of (needs S) [] log k s).1 (j, h, omega (arith, length-map places (λ (x : ℕ). get_or S.deltas x []), c.inside), same))))
            where
              s : ℕ
              s = sequence_of (get_or S.deltas (get_or places k 0) [])

              same : sequence_of (get_or log j []) ≡ sequence_of (get_or S.deltas (get_or places k 0) [])
              same = ap sequence_of (delta_at_place j (omega (arith, c.inside)) ∙ ap (λ (x : ℕ). get_or S.deltas x []) e)

          pub checking_more : Above keys places start k true → Checking S keys places (set placed i 1) (set ends i (k + 1)) (set froms k start) (k + 1)
          checking_more ab = record {
            inside = omega arith;
            placing = subst (Placing S (set placed i 1)) (sym taken) (placing_more S right i (place_inside k more) placed 1 (λ e. let z : ⊥ = omega arith in z) so_far now_ready c.placing);
            ends_size = length-set ends i (k + 1) ∙ c.ends_size;
            ended = λ j h. ⊎_elim
                (λ e. subst (λ (x : ℕ). get_or (set ends i (k + 1)) (get_or places x 0) 0 ≡ x + 1) (sym e) (get_or-set_same ends i (k + 1) 0 (omega (arith, place_inside k more, right.fits, c.ends_size))))
                (λ q. get_or-set_other ends i (get_or places j 0) (k + 1) 0 (apart j q) ∙ c.ended j q) (last_or j k h);
            froms_size = length-set froms k start ∙ c.froms_size;
            below = λ q h. ⊎_elim
                (λ e. subst (λ (x : ℕ). get_or (set froms k start) x 0 ≤ x) (sym e) (omega (arith, here, start_small now_ready)))
                (λ p. omega (arith, elsewhere q p, c.below q p)) (last_or q k h);
            sorted = λ q h. ⊎_elim
                (λ e. subst (λ (x : ℕ). (j : ℕ) → get_or (set froms k start) x 0 ≤ j → j < x → T (less (key_at keys places j) (key_at keys places x))) (sym e) (λ j u v. ab j (omega (arith, here)) v))
                (λ p j u v. c.sorted q p j (omega (arith, elsewhere q p)) v) (last_or q k h);
            from = λ q h. ⊎_elim
                (λ e. subst (λ (x : ℕ). (j : ℕ) → j < x → T (ready S (placed_by (deltas_at S.deltas (take j places))) (get_or S.deltas (get_or places x 0) [])) → get_or (set froms k start) x 0 ≤ j) (sym e) (λ j u t. omega (arith, here, start_least j u t)))
                (λ p j u t. omega (arith, elsewhere q p, c.from q p j u t)) (last_or q k h);
          }
            where
              room : k < length froms
              room = omega (arith, within.few, c.froms_size)

              here : get_or (set froms k start) k 0 ≡ start
              here = get_or-set_same froms k start 0 room

              elsewhere : (q : ℕ) → q < k → get_or (set froms k start) q 0 ≡ get_or froms q 0
              elsewhere q p = get_or-set_other froms k q start 0 (λ e. let z : ⊥ = omega arith in z)

              taken : deltas_at S.deltas (take (k + 1) places) ≡ so_far ++ get_or S.deltas (get_or places k 0) [] ∷ []
              taken = ap (λ (n : ℕ). deltas_at S.deltas (take n places)) (add-one k) ∙ ap (deltas_at S.deltas) (take-suc places k 0 more) ∙ map-append (λ (x : ℕ). get_or S.deltas x []) (take k places) (get_or places k 0 ∷ [])

          -- ---- a delta that it should be above and is not: this is not the log
          pub not_above : Above keys places start k false → log ≡ log_of S → ⊥
          not_above ab e =
              T_not (less (key_at keys places ab.0) (key_at keys places k)) ab.3
              (subst T (sym (compared ab.0 k (omega (arith, ab.2)) more (logged e ab.0 (omega (arith, ab.2))) (logged e k more)))
              (log_in_place e ab.0 k ab.2 (omega (arith, length-map places (λ (x : ℕ). get_or S.deltas x [])))
              ((ready_at sequence_of (needs S) [] log (listing_apart sequence_of (needs S) [] log (log_listing e)) ab.0 k (omega (arith, ab.2)) (omega (arith, length-map places (λ (x : ℕ). get_or S.deltas x [])))).1
              (λ s m. start_ready now_ready s (subst (λ (x : Message). s ∈ needs S x) (delta_at_place k more) m) ab.0 ab.1))))

        -- ---- a delta that is not ready: this is not the log
        pub not_ready : ready_in rows counts placed (get_or places k 0) ≡ false → log ≡ log_of S → ⊥
        not_ready stays e =
            let t : T (ready S (below sequence_of log k) (get_or log k [])) = (listing_at sequence_of (needs S) [] log []).0 (log_listing e) k (omega (arith, length-map places (λ (x : ℕ). get_or S.deltas x []))) in
            subst T (ap₂ (λ (d : List ℕ) (x : Message). ready S d x) (ap placed_by (take_deltas k)) (delta_at_place k more) ∙ sym is_ready ∙ stays) t

      -- ---- all are placed
      whole : length places ≤ k → take k places ≡ places
      whole h = take_all k places h

      -- one is ready: this is not the log
      pub not_whole : length places ≤ k → AnyReady rows counts placed (length S.deltas) true → log ≡ log_of S → ⊥
      not_whole h a e =
          complete_stuck sequence_of (needs S) S.deltas log (subst (L.Complete sequence_of (needs S) S.deltas) (sym e) (log_complete S right.ascends))
          (get_or S.deltas a.0 []) (get_d_∈ S.deltas a.0 [] a.1)
          (subst (λ (l : List ℕ). T (ready S (placed_by (deltas_at S.deltas l)) (get_or S.deltas a.0 []))) (whole h)
          (subst T (sym a.2 ∙ ready_is S placed so_far c.placing rows counts rr a.0 a.1) tt))

      -- none is: this is the log
      pub is_log : length places ≤ k → AnyReady rows counts placed (length S.deltas) false → log ≡ log_of S
      unfolding log_of
      is_log h idle =
          in_place_first sequence_of (needs S) [] (key_of S) less less_total S.deltas (keys_differ S right.ascends) (ascending_names S.deltas right.ascends)
          log p.listing p.received stuck in_order
        where
          p : Placing S placed (deltas_at S.deltas places)
          p = subst (λ (l : List ℕ). Placing S placed (deltas_at S.deltas l)) (whole h) c.placing

          stuck : Stuck sequence_of (needs S) S.deltas (placed_by (deltas_at S.deltas places))
          stuck = idle_stuck S placed log p rows counts rr idle

          placed_executable : (q : ℕ) → q < length places → Executable S (get_or (deltas_at S.deltas places) q [])
          placed_executable q r = ((stuck_complete sequence_of (needs S) S.deltas (ascending_names S.deltas right.ascends) log p.listing p.received stuck).sound (get_or log q [])
              (get_d_∈ log q [] (omega (arith, length-map places (λ (x : ℕ). get_or S.deltas x []))))).1

          in_order : InPlace sequence_of (needs S) [] (key_of S) less (deltas_at S.deltas places)
          in_order j q u v t =
              let inside : q < length places = omega (arith, length-map places (λ (x : ℕ). get_or S.deltas x [])) in
              subst T (compared j q (omega arith) inside (placed_executable j (omega arith)) (placed_executable q inside))
              (c.sorted q (omega arith) j
              (c.from q (omega arith) j u (subst T (ap₂ (λ (d : List ℕ) (x : Message). ready S d x) (ap placed_by (take_deltas j)) (delta_at_place q inside)) t)) u)
