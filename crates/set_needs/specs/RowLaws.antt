-- Rows by index: one more row is written, and what callers read of rows that are right.
use Rattle.std.specs.Prelude.{◌≡◌, refl, Bool, true, false, cond, not, ◌&&◌, List, [], ◌∷◌, map, ℕ, zero, suc, ◌+◌, ◌*◌, ◌≤◌, ◌<◌, length, get_or, set, take, drop, eqb}
use Rattle.std.proofs.Common.{sym, ◌∙◌, ap, ap₂, subst, ⊎_elim, arith, add-one, add-zero, length-drop, drop_of_length-le, drop-cons, length-take-le, get_or-take, get_or-drop, drop-drop, get_or-set_same, get_or-set_other, eqb→eq, eq-eqb}
use Rattle.std.proofs.Math.Bool.{and-false}
use Rattle.std.proofs.lemmas.List.{length-map}
use Rattle.std.proofs.Math.ListN.{get_or-map}
use Rattle.std.proofs.Math.Seq.{paste, paste-zero, paste-suc}
use Rattle.std.proofs.lemmas.List.Edits.{length-paste}
use Rattle.model.specs.Lists.{keep}
use Rattle.model.specs.Layout.{capacity}
use Rattle.model.specs.Message.{Message, sequence_of, needs_of}
use Rattle.model.specs.Order.{State, purged, RightSet, sequences_of, needs}
use Rattle.laws_order.specs.TestLaws.{decide, not_eqb, is_false}
use Rattle.laws_order.specs.ListLaws.{get_d_∈}
use Rattle.buffer_writes.specs.PasteLaws.{part_here, part_before}
use Rattle.set_needs.specs.Names.{missing, index_of}
use Rattle.set_needs.specs.IndexLaws.{index_cases, index_small}
use Rattle.set_needs.specs.NameLaws.{sequence_at}
use Rattle.set_needs.specs.Rows.{row_size, left_out, row_in, RowGrows, RowFilled, RowIs, RowsRight, RowFits}

-- ---- what is left out: where a delta was received, it is above its floor
pub left_out_lem : (S : State) → RightSet S → (s : ℕ) → left_out S.origin s (index_of (sequences_of S.deltas) s) ≡ purged S s
left_out_lem S right s = ⊎_elim
    (λ r. ap (λ (c : Bool). c && purged S s) (eq-eqb (index_of names s) missing r.0))
    (λ r. ap (λ (c : Bool). eqb (index_of names s) missing && c) (received r.0 r.1 r.2) ∙ and-false (eqb (index_of names s) missing) ∙ sym (received r.0 r.1 r.2))
    (index_cases names s)
  where
    names : List ℕ
    names = sequences_of S.deltas

    received : (i : ℕ) → i < length names → get_or names i 0 ≡ s → purged S s ≡ false
    received i h e =
        let m : Message = get_or S.deltas i [] in
        let inside : i < length S.deltas = omega (arith, length-map S.deltas sequence_of) in
        ap (purged S) (sym (sym (sequence_at S.deltas i) ∙ e)) ∙ is_false (purged S (sequence_of m)) (right.above m (get_d_∈ S.deltas i [] inside))

-- ---- a row as it grows
pub row_begins : (S : State) (m : Message) (before : List ℕ) (at : ℕ) → RowGrows before at S m 0 before 0
unfolding needs
row_begins S m before at = record {
  row = paste-zero before at (map (index_of (sequences_of S.deltas)) (needs S m));
  rest = refl;
  inside = omega arith;
  few = omega arith;
}

module _ {before : List ℕ} {at : ℕ} {S : State} {m : Message} {k : ℕ} {after : List ℕ} {n : ℕ} (g : RowGrows before at S m k after n) where
  abbrev named : ℕ → ℕ
  named s = index_of (sequences_of S.deltas) s

  abbrev indices : List ℕ
  indices = map named (needs S m)

  -- what is left of the sequences that it names
  abbrev later : List ℕ
  later = keep (λ s. not (purged S s)) (drop (k + 1) (needs_of m))

  left : k < length (needs_of m) → drop n (needs S m) ≡ cond (not (purged S (get_or (needs_of m) k 0))) (get_or (needs_of m) k 0 ∷ later) later
  left h = g.rest ∙ ap (keep (λ s. not (purged S s))) (drop-cons (needs_of m) k 0 h)
      ∙ ap (λ (j : ℕ). cond (not (purged S (get_or (needs_of m) k 0))) (get_or (needs_of m) k 0 ∷ keep (λ s. not (purged S s)) (drop j (needs_of m))) (keep (λ s. not (purged S s)) (drop j (needs_of m))))
      (sym (add-one k))

  pub grown_length : at + k ≤ length before → length after ≡ length before
  grown_length room =
      ap length g.row ∙ length-paste before at indices n (omega (arith, g.few)) (omega (arith, g.inside, length-map (needs S m) named))

  -- the next is left out, or written behind it
  module _ (room : at + k < length before) (h : k < length (needs_of m)) where
    stays : purged S (get_or (needs_of m) k 0) ≡ true → RowGrows before at S m (k + 1) after n
    stays t = record {
      row = g.row;
      rest = left h ∙ ap (λ (c : Bool). cond (not c) (get_or (needs_of m) k 0 ∷ later) later) t;
      inside = g.inside;
      few = omega (arith, g.few);
    }

    grows : purged S (get_or (needs_of m) k 0) ≡ false → RowGrows before at S m (k + 1) (set after (at + n) (named (get_or (needs_of m) k 0))) (n + 1)
    grows t =
        let parted : drop n (needs S m) ≡ get_or (needs_of m) k 0 ∷ later = left h ∙ ap (λ (c : Bool). cond (not c) (get_or (needs_of m) k 0 ∷ later) later) t in
        let more : n < length (needs S m) = omega (arith, ap length parted, length-drop n (needs S m)) in
        let same : get_or (needs S m) n 0 ≡ get_or (needs_of m) k 0 = simp add-zero at (sym (get_or-drop n (needs S m) 0 0) ∙ ap (λ (l : List ℕ). get_or l 0 0) parted) in
        let found : named (get_or (needs_of m) k 0) ≡ get_or indices n (named 0) = ap named (sym same) ∙ sym (get_or-map named (needs S m) n 0) in
        record {
          row =
              ap₂ (λ (l : List ℕ) (x : ℕ). set l (at + n) x) g.row found
              ∙ paste-suc before at indices n (named 0) (omega (arith, g.few)) (omega (arith, length-map (needs S m) named))
              ∙ ap (paste before at indices) (sym (add-one n));
          rest = sym (drop-drop 1 n (needs S m)) ∙ ap (drop 1) parted;
          inside = omega arith;
          few = omega (arith, g.few);
        }

    becomes : {l next : List ℕ} {c count : ℕ} → next ≡ l → count ≡ c → RowGrows before at S m (k + 1) l c → RowGrows before at S m (k + 1) next count
    becomes {l} {next} {c} {count} e f r =
        subst (λ (x : List ℕ). RowGrows before at S m (k + 1) x count) (sym e) (subst (λ (x : ℕ). RowGrows before at S m (k + 1) l x) (sym f) r)

    pub row_grows : (index : ℕ) → index ≡ named (get_or (needs_of m) k 0) → (out : Bool) → out ≡ purged S (get_or (needs_of m) k 0)
        → {next : List ℕ} {count : ℕ} → (next ≡ cond out after (set after (at + n) index)) × (count ≡ cond out n (n + 1)) → RowGrows before at S m (k + 1) next count
    row_grows index e true t w = becomes w.0 w.1 (stays (sym t))
    row_grows index e false t w = becomes (w.0 ∙ ap (set after (at + n)) e) w.1 (grows (sym t))

  pub row_filled : k ≡ length (needs_of m) → k ≤ row_size → RowFilled before at indices after n
  row_filled all short =
      let past : length (needs_of m) ≤ k = omega arith in
      let none : drop n (needs S m) ≡ [] = g.rest ∙ ap (keep (λ s. not (purged S s))) (drop_of_length-le (needs_of m) past) in
      record {
        row = g.row;
        length_is = omega (arith, ap length none, length-drop n (needs S m), g.inside, length-map (needs S m) named);
        short = omega (arith, g.few);
      }

-- ---- one more row
module _ (row : ℕ → List ℕ) (rows counts : List ℕ) (i n : ℕ) {after : List ℕ} (filled : RowFilled rows (row_size * i) (row i) after n)
    (room : row_size * i + row_size ≤ length rows) (here : i < length counts) where
  pub rows_length : length after ≡ length rows
  rows_length = ap length filled.row ∙ length-paste rows (row_size * i) (row i) n (omega (arith, filled.short)) (omega (arith, filled.length_is))

  new_row : RowIs after (set counts i n) i (row i)
  new_row =
      let e : get_or (set counts i n) i 0 ≡ n = get_or-set_same counts i n 0 here in
      record {
        short = omega (arith, filled.short);
        row =
            ap₂ (λ (c : ℕ) (l : List ℕ). take c (drop (row_size * i) l)) e filled.row
            ∙ part_here rows (row_size * i) (row i) n (omega arith) filled.length_is;
      }

  old_row : (k : ℕ) → k < i → RowIs rows counts k (row k) → RowIs after (set counts i n) k (row k)
  old_row k h r =
      let other : k ≡ i → ⊥ = λ e. let z : ⊥ = omega arith in z in
      let e : get_or (set counts i n) k 0 ≡ get_or counts k 0 = get_or-set_other counts i k n 0 other in
      let few : get_or counts k 0 ≤ row_size = r.short in
      record {
        short = omega arith;
        row =
            ap₂ (λ (c : ℕ) (l : List ℕ). take c (drop (row_size * k) l)) e filled.row
            ∙ part_before rows (row_size * i) (row i) n (row_size * k) (get_or counts k 0) (omega arith) (omega arith) ∙ r.row;
      }

  pub rows_more : ((k : ℕ) → k < i → RowIs rows counts k (row k)) → (k : ℕ) → k < i + 1 → RowIs after (set counts i n) k (row k)
  rows_more old k h = ⊎_elim
      (λ t. let e : k ≡ i = eqb→eq k i t in subst (λ (j : ℕ). RowIs after (set counts i n) j (row j)) (sym e) new_row)
      (λ t. let e : k ≡ i → ⊥ = not_eqb k i t in let less : k < i = omega arith in old_row k less (old k less))
      (decide (eqb k i))

-- ---- what callers read
module _ {rows counts : List ℕ} {i : ℕ} where
  pub row_length : RowFits rows counts i → length (row_in rows counts i) ≡ get_or counts i 0
  row_length fits = length-take-le (get_or counts i 0) (drop (row_size * i) rows) (omega (arith, fits.inside, length-drop (row_size * i) rows))

  pub row_at : RowFits rows counts i → (k : ℕ) → k < get_or counts i 0 → get_or (row_in rows counts i) k 0 ≡ get_or rows (row_size * i + k) 0
  row_at fits k h = get_or-take (get_or counts i 0) (drop (row_size * i) rows) k 0 h ∙ get_or-drop (row_size * i) rows k 0

indices_small : (names : List ℕ) → length names ≤ capacity → (l : List ℕ) (k : ℕ) → get_or (map (index_of names) l) k 0 ≤ missing
indices_small names h [] k = omega arith
indices_small names h (s ∷ l) zero = index_small names h s
indices_small names h (s ∷ l) (suc k) = indices_small names h l k

pub rows_fit : {rows counts : List ℕ} (S : State) → RightSet S → RowsRight S rows counts → (i : ℕ) → i < length S.deltas → RowFits rows counts i
rows_fit {rows} {counts} S right r i h = record {
  here = omega (arith, right.fits, r.counted);
  inside = omega (arith, right.fits, r.size, r.short i h);
  small = λ k q.
      subst (λ (x : ℕ). x ≤ missing) (ap (λ (l : List ℕ). get_or l k 0) (sym (r.row i h)) ∙ get_or-take (get_or counts i 0) (drop (row_size * i) rows) k 0 q ∙ get_or-drop (row_size * i) rows k 0)
      (indices_small (sequences_of S.deltas) (omega (arith, right.fits, length-map S.deltas sequence_of)) (needs S (get_or S.deltas i [])) k);
}
