-- What rows, marks and blocks say of a delta is what the definitions say: whether it is ready, and its effective block.
use Rattle.std.specs.Prelude.{◌≡◌, refl, Bool, true, false, ◌&&◌, ℕ, ◌+◌, ◌*◌, ◌≤◌, ◌<◌, max, length, drop, T}
use Rattle.std.proofs.Math.Path.{sym, ap, ap₂}
use Rattle.std.proofs.Common.{◌∙◌, subst, ⊎_elim, arith, T_not}
use Rattle.std.proofs.Math.Bool.{not}
use mathlib.Core.List.Memᴰ
use mathlib.Core.List.{List, [], ◌∷◌, map}
use Rattle.std.proofs.Math.ListN.{get_or, length-map}
use Rattle.std.proofs.Math.Dec.{not_T}
use Rattle.model.specs.Lists.{◌∈◌, has, has_all, every, greatest}
use Rattle.model.specs.Message.{Message, sequence_of}
use Rattle.model.specs.Order.{State, RightSet, sequences_of, find, needs, placed_by, ready, own_block, effective_block}
use Rattle.laws_order.specs.ListLaws.{get_d_∈, ∈_get_d}
use Rattle.laws_order.specs.ScanLaws.{every_step, every_end, greatest_step, greatest_end}
use Rattle.laws_order.specs.TestLaws.{is_false, has→∈, has_all→∈}
use Rattle.laws_order.specs.ListingLaws.{Stuck, ready_needs, ready_executable, after_from}
use Rattle.laws_state.specs.SetLaws.{find_here}
use Rattle.laws_state.specs.EffectiveLaws.{effective_is}
use Rattle.set_needs.specs.Names.{missing, index_of}
use Rattle.set_needs.specs.IndexLaws.{index_cases}
use Rattle.set_needs.specs.NameLaws.{sequence_at}
use Rattle.set_needs.specs.Rows.{row_size, row_in, RowsRight, RowFits}
use Rattle.set_needs.specs.RowLaws.{row_length, row_at}
use Rattle.set_readiness.specs.Ready.{is_placed, ready_in, greatest_along, Placing, Blocks}

-- ---- a row, one need after the other
module _ (rows counts : List ℕ) (i : ℕ) (fits : RowFits rows counts i) where
  pub every_row : (p : ℕ → Bool) (k : ℕ) → k < get_or counts i 0 → every p (drop k (row_in rows counts i)) ≡ p (get_or rows (row_size * i + k) 0) && every p (drop (k + 1) (row_in rows counts i))
  every_row p k h =
      every_step p (row_in rows counts i) k 0 (omega (arith, row_length fits))
      ∙ ap (λ (x : ℕ). p x && every p (drop (k + 1) (row_in rows counts i))) (row_at fits k h)

  pub row_done : (p : ℕ → Bool) (k : ℕ) → get_or counts i 0 ≤ k → every p (drop k (row_in rows counts i)) ≡ true
  row_done p k h = every_end p (row_in rows counts i) k (omega (arith, row_length fits))

  pub greatest_row : (f : ℕ → ℕ) (k : ℕ) → k < get_or counts i 0 → greatest f (drop k (row_in rows counts i)) ≡ max (f (get_or rows (row_size * i + k) 0)) (greatest f (drop (k + 1) (row_in rows counts i)))
  greatest_row f k h =
      greatest_step f (row_in rows counts i) k 0 (omega (arith, row_length fits))
      ∙ ap (λ (x : ℕ). max (f x) (greatest f (drop (k + 1) (row_in rows counts i)))) (row_at fits k h)

  pub greatest_done : (f : ℕ → ℕ) (k : ℕ) → get_or counts i 0 ≤ k → greatest f (drop k (row_in rows counts i)) ≡ 0
  greatest_done f k h = greatest_end f (row_in rows counts i) k (omega (arith, row_length fits))

-- ---- the mark of the delta itself decides, or its row does
pub ready_marked : (rows counts placed : List ℕ) (i : ℕ) → is_placed placed i ≡ true → ready_in rows counts placed i ≡ false
unfolding ready_in
ready_marked rows counts placed i e = ap (λ (t : Bool). not t && every (is_placed placed) (row_in rows counts i)) e

pub ready_unmarked : (rows counts placed : List ℕ) (i : ℕ) → is_placed placed i ≡ false → ready_in rows counts placed i ≡ every (is_placed placed) (drop 0 (row_in rows counts i))
unfolding ready_in
ready_unmarked rows counts placed i e = ap (λ (t : Bool). not t && every (is_placed placed) (row_in rows counts i)) e

-- ---- needs by their indices
every_named : (p : ℕ → Bool) (index : ℕ → ℕ) (done : List ℕ) → ((s : ℕ) → p (index s) ≡ has s done) → (ss : List ℕ) → every p (map index ss) ≡ has_all ss done
every_named p index done f [] = refl
every_named p index done f (s ∷ ss) = ap₂ ◌&&◌ (f s) (every_named p index done f ss)

pub greatest_named : (f g index : ℕ → ℕ) (ss : List ℕ) → ((s : ℕ) → s ∈ ss → f (index s) ≡ g s) → greatest f (map index ss) ≡ greatest g ss
greatest_named f g index [] h = refl
greatest_named f g index (s ∷ ss) h = ap₂ max (h s (Memᴰ.head refl)) (greatest_named f g index ss (λ t k. h t (Memᴰ.tail k)))

module _ (S : State) (placed : List ℕ) (l : List Message) (p : Placing S placed l) where
  abbrev names : List ℕ
  names = sequences_of S.deltas

  -- what is placed was received
  pub placed_known : (s : ℕ) → s ∈ placed_by l → s ∈ sequences_of S.deltas
  placed_known s k = ⊎_elim (λ q. absurd (Memᴰ.not-nil q)) (λ r. Memᴰ.cast (sym r.2) (Memᴰ.map sequence_of (p.received r.0 r.1))) (after_from sequence_of l [] k)

  -- a sequence is placed exactly if its index is marked
  pub placed_named : (s : ℕ) → is_placed placed (index_of names s) ≡ has s (placed_by l)
  placed_named s = ⊎_elim unnamed named (index_cases names s)
    where
      unnamed : (index_of names s ≡ missing) × ((i : ℕ) → i < length names → get_or names i 0 ≡ s → ⊥) → is_placed placed (index_of names s) ≡ has s (placed_by l)
      unnamed r =
          ap (is_placed placed) r.0 ∙ p.marks.absent
          ∙ sym (is_false (has s (placed_by l)) (not_T (has s (placed_by l)) (λ t. let at = ∈_get_d 0 (placed_known s (has→∈ s (placed_by l) t)) in r.1 at.0 at.1 at.2)))

      named : (i : ℕ) × (i < length names) × (get_or names i 0 ≡ s) × (index_of names s ≡ i) → is_placed placed (index_of names s) ≡ has s (placed_by l)
      named r = ap (is_placed placed) r.3 ∙ p.marks.here r.0 r.1 ∙ ap (λ (x : ℕ). has x (placed_by l)) r.2

  module _ (rows counts : List ℕ) (right : RowsRight S rows counts) where
    pub ready_is : (i : ℕ) → i < length S.deltas → ready_in rows counts placed i ≡ ready S (placed_by l) (get_or S.deltas i [])
    unfolding ready_in
    ready_is i h =
        ap₂ (λ (a b : Bool). not a && b)
        (p.marks.here i (omega (arith, length-map S.deltas sequence_of)) ∙ ap (λ (x : ℕ). has x (placed_by l)) (sequence_at S.deltas i))
        (ap (every (is_placed placed)) (right.row i h) ∙ every_named (is_placed placed) (index_of names) (placed_by l) placed_named (needs S (get_or S.deltas i [])))

    module _ (set : RightSet S) (blocks : List ℕ) (b : Blocks S blocks (placed_by l)) where
      block_named : (s : ℕ) → s ∈ placed_by l → get_or blocks (index_of names s) 0 ≡ effective_block S (find S.deltas s)
      block_named s k = ⊎_elim unnamed named (index_cases names s)
        where
          unnamed : (index_of names s ≡ missing) × ((i : ℕ) → i < length names → get_or names i 0 ≡ s → ⊥) → get_or blocks (index_of names s) 0 ≡ effective_block S (find S.deltas s)
          unnamed r = let at = ∈_get_d 0 (placed_known s k) in absurd (r.1 at.0 at.1 at.2)

          named : (i : ℕ) × (i < length names) × (get_or names i 0 ≡ s) × (index_of names s ≡ i) → get_or blocks (index_of names s) 0 ≡ effective_block S (find S.deltas s)
          named r =
              let h : r.0 < length S.deltas = omega (arith, length-map S.deltas sequence_of) in
              ap (λ (j : ℕ). get_or blocks j 0) r.3 ∙ b.here r.0 h (Memᴰ.cast r.2 k)
              ∙ ap (effective_block S) (sym (find_here S.deltas set.ascends (get_or S.deltas r.0 []) (get_d_∈ S.deltas r.0 [] h)) ∙ ap (find S.deltas) (sym (sequence_at S.deltas r.0) ∙ r.2))

      pub block_is : (i : ℕ) → i < length S.deltas → T (ready S (placed_by l) (get_or S.deltas i []))
          → greatest_along rows counts blocks i (own_block S (get_or S.deltas i [])) ≡ effective_block S (get_or S.deltas i [])
      unfolding greatest_along
      block_is i h t =
          ap (max (own_block S m))
          (ap (greatest (λ j. get_or blocks j 0)) (right.row i h)
          ∙ greatest_named (λ j. get_or blocks j 0) (λ s. effective_block S (find S.deltas s)) (index_of names) (needs S m)
          (λ s k. block_named s (has_all→∈ (needs S m) (placed_by l) (ready_needs sequence_of (needs S) (placed_by l) m t) s k)))
          ∙ sym (effective_is S set.ascends set.fits m of (ready_executable sequence_of (needs S) S.deltas l p.listing p.received m of t))
        where
          m : Message
          m = get_or S.deltas i []

          of : get_or S.deltas i [] ∈ S.deltas
          of = get_d_∈ S.deltas i [] h

-- ---- where no index is ready, no delta is
pub idle_stuck : (S : State) (placed : List ℕ) (l : List Message) → Placing S placed l → (rows counts : List ℕ) → RowsRight S rows counts
    → ((i : ℕ) → i < length S.deltas → ready_in rows counts placed i ≡ false) → Stuck sequence_of (needs S) S.deltas (placed_by l)
idle_stuck S placed l p rows counts right idle a k t =
    let r = ∈_get_d [] k in
    T_not (ready S (placed_by l) a) (subst (λ (b : Bool). T (not b)) (sym (idle r.0 r.1) ∙ ready_is S placed l p rows counts right r.0 r.1 ∙ ap (ready S (placed_by l)) r.2) tt) t
