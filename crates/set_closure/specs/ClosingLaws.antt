-- The closure grows by a delta that is ready; where none is, all executable deltas are placed.
use Rattle.std.specs.Prelude.{◌≡◌, refl, Bool, true, false, not, ◌||◌, List, [], ◌∷◌, ◌++◌, ℕ, ◌+◌, ◌≤◌, ◌<◌, length, get_or, take, set, replicate, T, eqb}
use Rattle.std.proofs.Common.{sym, ◌∙◌, ap, subst, ⊎_elim, arith, add-one, length-append, length-set, get_or-set_same, get_or-set_other, take-suc-set, length-take-le, eqb→eq, eq-eqb, ne_eqb}
use mathlib.Core.List.Memᴰ
use Rattle.std.proofs.lemmas.List.{map-append, length-map, length-replicate, get_or-replicate}
use Rattle.model.specs.Lists.{◌∈◌, has}
use Rattle.model.specs.Layout.{capacity}
use Rattle.model.specs.Message.{Message, sequence_of}
use Rattle.model.specs.Order.{State, RightSet, sequences_of, needs, placed_by, ready, Executable, own_block, effective_block}
use Rattle.laws_order.specs.ListLaws.{get_d_∈}
use Rattle.laws_order.specs.TestLaws.{decide, not_eqb}
use Rattle.laws_order.specs.ListingLaws.{stuck_complete, listing_snoc, listing_length, after_snoc, after_has}
use Rattle.laws_state.specs.SetLaws.{ascending_names}
use Rattle.set_table.specs.Table.{deltas_at}
use Rattle.set_table.specs.PlaceLaws.{one_place}
use Rattle.set_needs.specs.Names.{missing, index_of}
use Rattle.set_needs.specs.IndexLaws.{index_here}
use Rattle.set_needs.specs.NameLaws.{sequence_at, set_ascends}
use Rattle.set_needs.specs.Rows.{RowsRight}
use Rattle.set_readiness.specs.Ready.{marks_size, is_placed, ready_in, greatest_along, Marks, Placing, Blocks}
use Rattle.set_readiness.specs.ReadyLaws.{ready_is, block_is, idle_stuck}
use Rattle.set_closure.specs.Closing.{Closing, Tried, Passing, Passed, Closed}

-- ---- marks and blocks with one more
module _ (S : State) (right : RightSet S) (i : ℕ) (inside : i < length S.deltas) where
  abbrev names : List ℕ
  names = sequences_of S.deltas

  -- two deltas of one sequence are one
  apart : (j : ℕ) → j < length names → (j ≡ i → ⊥) → get_or names j 0 ≡ get_or names i 0 → ⊥
  apart j h f e =
      let k : j < length S.deltas = omega (arith, length-map S.deltas sequence_of) in
      f (one_place S.deltas right.ascends j i k inside (sym (sequence_at S.deltas j) ∙ e ∙ sequence_at S.deltas i))

  pub marks_more : (placed done : List ℕ) (mark : ℕ) → (mark ≡ 0 → ⊥) → Marks names placed done → Marks names (set placed i mark) (get_or names i 0 ∷ done)
  marks_more placed done mark some m = record {
    size = length-set placed i mark ∙ m.size;
    here = λ j h. ⊎_elim (same j) (other j h) (decide (eqb j i));
    absent = elsewhere missing (λ e. let z : ⊥ = omega (arith, right.fits) in z) ∙ m.absent;
  }
    where
      elsewhere : (j : ℕ) → (j ≡ i → ⊥) → is_placed (set placed i mark) j ≡ is_placed placed j
      elsewhere j f = ap (λ (x : ℕ). not (eqb x 0)) (get_or-set_other placed i j mark 0 f)

      same : (j : ℕ) → T (eqb j i) → is_placed (set placed i mark) j ≡ has (get_or names j 0) (get_or names i 0 ∷ done)
      same j t =
          let e : j ≡ i = eqb→eq j i t in
          ap (is_placed (set placed i mark)) e ∙ ap (λ (x : ℕ). not (eqb x 0)) (get_or-set_same placed i mark 0 (omega (arith, right.fits, m.size)))
          ∙ ap not (ne_eqb mark 0 some) ∙ sym (ap (λ (b : Bool). b || has (get_or names j 0) done) (eq-eqb (get_or names j 0) (get_or names i 0) (ap (λ (x : ℕ). get_or names x 0) e)))

      other : (j : ℕ) → j < length names → T (not (eqb j i)) → is_placed (set placed i mark) j ≡ has (get_or names j 0) (get_or names i 0 ∷ done)
      other j h t =
          elsewhere j (not_eqb j i t) ∙ m.here j h
          ∙ sym (ap (λ (b : Bool). b || has (get_or names j 0) done) (ne_eqb (get_or names j 0) (get_or names i 0) (apart j h (not_eqb j i t))))

  blocks_more : (blocks done : List ℕ) (e : ℕ) → e ≡ effective_block S (get_or S.deltas i []) → Blocks S blocks done → Blocks S (set blocks i e) (get_or names i 0 ∷ done)
  blocks_more blocks done e q b = record {
    size = length-set blocks i e ∙ b.size;
    here = λ j h k. ⊎_elim (λ t. same j (eqb→eq j i t)) (λ t. other j h (not_eqb j i t) k) (decide (eqb j i));
  }
    where
      same : (j : ℕ) → j ≡ i → get_or (set blocks i e) j 0 ≡ effective_block S (get_or S.deltas j [])
      same j x =
          ap (λ (y : ℕ). get_or (set blocks i e) y 0) x ∙ get_or-set_same blocks i e 0 (omega (arith, right.fits, b.size)) ∙ q
          ∙ ap (λ (n : ℕ). effective_block S (get_or S.deltas n [])) (sym x)

      other : (j : ℕ) → j < length S.deltas → (j ≡ i → ⊥) → get_or names j 0 ∈ get_or names i 0 ∷ done → get_or (set blocks i e) j 0 ≡ effective_block S (get_or S.deltas j [])
      other j h f k =
          get_or-set_other blocks i j e 0 f
          ∙ b.here j h (⊎_elim (λ x. absurd (apart j (omega (arith, length-map S.deltas sequence_of)) f x)) (λ m. m) (Memᴰ.cases_cons k))

  -- the sequences placed, with this one
  placed_snoc : (l : List Message) → placed_by (l ++ get_or S.deltas i [] ∷ []) ≡ get_or names i 0 ∷ placed_by l
  placed_snoc l = after_snoc sequence_of l [] (get_or S.deltas i []) ∙ ap (λ (s : ℕ). s ∷ placed_by l) (sym (sequence_at S.deltas i))

  pub placing_more : (placed : List ℕ) (mark : ℕ) → (mark ≡ 0 → ⊥) → (l : List Message) → T (ready S (placed_by l) (get_or S.deltas i [])) → Placing S placed l
      → Placing S (set placed i mark) (l ++ get_or S.deltas i [] ∷ [])
  placing_more placed mark some l t p = record {
    listing = listing_snoc sequence_of (needs S) l [] (get_or S.deltas i []) p.listing t;
    received = λ m k. ⊎_elim (λ j. p.received m j) (λ j. Memᴰ.cast (Memᴰ.eq_of_singleton j) (get_d_∈ S.deltas i [] inside)) (Memᴰ.append_cases l k);
    marks = subst (Marks names (set placed i mark)) (sym (placed_snoc l)) (marks_more placed (placed_by l) mark some p.marks);
  }

-- nothing is placed
pub placing_none : (S : State) → RightSet S → Placing S (replicate marks_size 0) []
placing_none S right = record {
  listing = tt;
  received = λ m k. absurd (Memᴰ.not-nil k);
  marks = record {
    size = length-replicate {A = ℕ} marks_size 0;
    here = λ i h. ap (λ (x : ℕ). not (eqb x 0)) (get_or-replicate marks_size i 0 0 (omega (arith, length-map S.deltas sequence_of, right.fits)));
    absent = refl;
  };
}

module _ (S : State) (right : RightSet S) where
  pub closing_none : (blocks order : List ℕ) → length blocks ≡ marks_size → length order ≡ capacity → Closing S (replicate marks_size 0) blocks order 0
  closing_none blocks order p q = record {
    size = q;
    few = omega arith;
    inside = λ i k. absurd (Memᴰ.not-nil k);
    placing = placing_none S right;
    effective = record { size = p; here = λ i h k. absurd (Memᴰ.not-nil k) };
  }

  module _ (placed blocks order : List ℕ) (count : ℕ) (c : Closing S placed blocks order count) where
    abbrev so_far : List Message
    so_far = deltas_at S.deltas (take count order)

    so_far_length : length (deltas_at S.deltas (take count order)) ≡ count
    so_far_length = length-map (take count order) (λ i. get_or S.deltas i []) ∙ length-take-le count order (omega (arith, c.size, c.few, right.fits))

    -- a delta that is ready is placed
    pub closing_more : (i e : ℕ) → i < length S.deltas → T (ready S (placed_by so_far) (get_or S.deltas i [])) → e ≡ effective_block S (get_or S.deltas i [])
        → Closing S (set placed i 1) (set blocks i e) (set order count i) (count + 1)
    closing_more i e inside t q = record {
      size = length-set order count i ∙ c.size;
      few = omega (arith, listing_length sequence_of (needs S) S.deltas (so_far ++ m ∷ []) more.listing more.received, length-append so_far (m ∷ []), so_far_length);
      inside = λ j k. ⊎_elim (λ x. c.inside j x) (λ x. omega (arith, Memᴰ.eq_of_singleton x)) (Memᴰ.append_cases (take count order) (subst (λ (l : List ℕ). j ∈ l) order_more k));
      placing = subst (Placing S (set placed i 1)) (sym deltas_more) more;
      effective = subst (Blocks S (set blocks i e)) (sym (ap placed_by deltas_more ∙ placed_snoc S right i inside so_far)) (blocks_more S right i inside blocks (placed_by so_far) e q c.effective);
    }
      where
        m : Message
        m = get_or S.deltas i []

        more : Placing S (set placed i 1) (so_far ++ get_or S.deltas i [] ∷ [])
        more = placing_more S right i inside placed 1 (λ x. let z : ⊥ = omega arith in z) so_far t c.placing

        room : count < length order
        room = omega (arith, c.size, right.fits, listing_length sequence_of (needs S) S.deltas (so_far ++ m ∷ []) more.listing more.received, length-append so_far (m ∷ []), so_far_length)

        order_more : take (count + 1) (set order count i) ≡ take count order ++ i ∷ []
        order_more = ap (λ (n : ℕ). take n (set order count i)) (add-one count) ∙ take-suc-set order count i room

        deltas_more : deltas_at S.deltas (take (count + 1) (set order count i)) ≡ so_far ++ m ∷ []
        deltas_more = ap (deltas_at S.deltas) order_more ∙ map-append (λ j. get_or S.deltas j []) (take count order) (i ∷ [])

    -- ---- one delta is looked at
    module _ (rows counts : List ℕ) (i : ℕ) where
      pub tried_idle : ready_in rows counts placed i ≡ false → Tried S rows counts placed count i placed blocks order count
      tried_idle e = record { closing = c; grows = omega arith; idle = λ x. (refl, e) }

      pub tried_more : RowsRight S rows counts → i < length S.deltas → ready_in rows counts placed i ≡ true
          → (e : ℕ) → e ≡ greatest_along rows counts blocks i (own_block S (get_or S.deltas i []))
          → Tried S rows counts placed count i (set placed i 1) (set blocks i e) (set order count i) (count + 1)
      tried_more rr inside r e q = record {
        closing = closing_more i e inside is_ready (q ∙ block_is S placed so_far c.placing rows counts rr right blocks c.effective i inside is_ready);
        grows = omega arith;
        idle = λ x. let z : ⊥ = omega arith in absurd z;
      }
        where
          is_ready : T (ready S (placed_by so_far) (get_or S.deltas i []))
          is_ready = subst T (sym r ∙ ready_is S placed so_far c.placing rows counts rr i inside) tt

  -- ---- where none is ready, all executable deltas are placed, with their effective blocks
  module _ (rows counts : List ℕ) (rr : RowsRight S rows counts) (blocks order : List ℕ) (count : ℕ) (c : Closed S rows counts blocks order count) (i : ℕ) (h : i < length S.deltas) (ex : Executable S (get_or S.deltas i [])) where
    abbrev placed_deltas : List Message
    placed_deltas = deltas_at S.deltas (take count order)

    listed : get_or S.deltas i [] ∈ placed_deltas
    listed = (stuck_complete sequence_of (needs S) S.deltas (ascending_names S.deltas right.ascends) placed_deltas c.closing.placing.listing c.closing.placing.received
        (idle_stuck S c.placed placed_deltas c.closing.placing rows counts rr c.idle)).complete (get_or S.deltas i []) (get_d_∈ S.deltas i [] h) ex

    pub closed_block : get_or blocks i 0 ≡ effective_block S (get_or S.deltas i [])
    closed_block = c.closing.effective.here i h (subst (λ (s : ℕ). s ∈ placed_by placed_deltas) (sym (sequence_at S.deltas i)) (after_has sequence_of placed_deltas [] listed))

    -- it is one of those in the closure's order
    pub closed_placed : i ∈ take count order
    closed_placed =
        let m = Memᴰ.of_map (λ j. get_or S.deltas j []) (take count order) listed in
        subst (λ (j : ℕ). j ∈ take count order) (index m.0 (c.closing.inside m.0 m.1) (ap sequence_of m.2) ∙ sym (index i h refl)) m.1
      where
        index : (j : ℕ) → j < length S.deltas → sequence_of (get_or S.deltas j []) ≡ sequence_of (get_or S.deltas i []) → j ≡ index_of (sequences_of S.deltas) (sequence_of (get_or S.deltas i []))
        index j q e = index_here (sequences_of S.deltas) (set_ascends S.deltas right.ascends) (sequence_of (get_or S.deltas i [])) j (omega (arith, length-map S.deltas sequence_of)) (sequence_at S.deltas j ∙ e)

-- ---- what holds where the loop of `pass` tests
module _ (S : State) (rows counts : List ℕ) (count : ℕ) where
  pub passing_none : (placed blocks order : List ℕ) → Closing S placed blocks order count → Passing S rows counts count placed blocks order count 0
  passing_none placed blocks order c = record { closing = c; grows = omega arith; idle = λ x j h. let z : ⊥ = omega arith in absurd z }

  pub passing_more : (before placed blocks order : List ℕ) {b o : List ℕ} (n next i : ℕ) → Passing S rows counts count before b o n i
      → Tried S rows counts before n i placed blocks order next → Passing S rows counts count placed blocks order next (i + 1)
  passing_more before placed blocks order n next i p t = record {
    closing = t.closing;
    grows = omega (arith, p.grows, t.grows);
    idle = λ x j h.
        let e : next ≡ n = omega (arith, p.grows, t.grows) in
        let same = t.idle e in
        ap (λ (l : List ℕ). ready_in rows counts l j) same.0
        ∙ ⊎_elim (λ u. ap (ready_in rows counts before) (eqb→eq j i u) ∙ same.1)
        (λ u. p.idle (omega arith) j (let other : j ≡ i → ⊥ = not_eqb j i u in omega arith)) (decide (eqb j i));
  }

  pub passing_all : (placed blocks order : List ℕ) (n i : ℕ) → length S.deltas ≤ i → Passing S rows counts count placed blocks order n i → Passed S rows counts count placed blocks order n
  passing_all placed blocks order n i h p = record { closing = p.closing; grows = p.grows; idle = λ x j k. p.idle x j (omega arith) }
