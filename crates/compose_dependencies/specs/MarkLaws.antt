-- What is marked: what was, and the indices that were marked since.
use Rattle.std.specs.Prelude.{◌≡◌, refl, Bool, not, ◌||◌, List, [], ◌∷◌, ◌++◌, map, ℕ, suc, ◌+◌, ◌*◌, ◌-◌, ◌≤◌, ◌<◌, length, get_or, set, take, drop, replicate, T, eqb}
use Rattle.std.proofs.Common.{sym, ◌∙◌, ap, ⊎_elim, arith, add-one, length-set, drop_of_length-le, drop-cons, get_or-set_same, get_or-set_other, eqb→eq, eq-eqb, ne_eqb}
use Rattle.std.proofs.Math.Bool.{or-true, or-false, or_assoc}
use Rattle.std.proofs.lemmas.List.{length-replicate, get_or-replicate}
use Rattle.model.specs.Lists.{has}
use Rattle.model.specs.Bytes.{join}
use Rattle.laws_order.specs.ListLaws.{∈_get_d}
use Rattle.laws_order.specs.TestLaws.{decide, not_eqb}
use Rattle.set_table.specs.Places.{AllBelow}
use Rattle.set_needs.specs.Rows.{row_size, row_in, RowFits}
use Rattle.set_needs.specs.RowLaws.{row_length, row_at}
use Rattle.set_readiness.specs.Ready.{marks_size, is_placed}
use Rattle.compose_dependencies.specs.Marks.{marked}

pub length_marked : (marks l : List ℕ) → length (marked marks l) ≡ length marks
length_marked marks [] = refl
length_marked marks (i ∷ l) = length_marked (set marks i 1) l ∙ length-set marks i 1

-- ---- one after the other
pub marked_next : (marks l : List ℕ) (k : ℕ) → k < length l → marked marks (drop k l) ≡ marked (set marks (get_or l k 0) 1) (drop (k + 1) l)
marked_next marks l k h = ap (marked marks) (drop-cons l k 0 h) ∙ ap (λ (n : ℕ). marked (set marks (get_or l k 0) 1) (drop n l)) (sym (add-one k))

pub marked_none : (marks l : List ℕ) (k : ℕ) → length l ≤ k → marked marks (drop k l) ≡ marks
marked_none marks l k h = ap (marked marks) (drop_of_length-le l h)

marked_append : (marks l k : List ℕ) → marked marks (l ++ k) ≡ marked (marked marks l) k
marked_append marks [] k = refl
marked_append marks (i ∷ l) k = marked_append (set marks i 1) l k

-- the row of a place, and those behind it
module _ (row : ℕ → List ℕ) (marks places : List ℕ) (k : ℕ) where
  pub needs_next : k < length places → marked marks (join (map row (drop k places))) ≡ marked (marked marks (row (get_or places k 0))) (join (map row (drop (k + 1) places)))
  needs_next h =
      ap (λ (l : List ℕ). marked marks (join (map row l))) (drop-cons places k 0 h)
      ∙ marked_append marks (row (get_or places k 0)) (join (map row (drop (suc k) places)))
      ∙ ap (λ (n : ℕ). marked (marked marks (row (get_or places k 0))) (join (map row (drop n places)))) (sym (add-one k))

  pub needs_none : length places ≤ k → marked marks (join (map row (drop k places))) ≡ marks
  needs_none h = ap (λ (l : List ℕ). marked marks (join (map row l))) (drop_of_length-le places h)

-- a row as it is lent, and what it holds: indices, or missing
module _ (rows counts : List ℕ) (i : ℕ) where
  pub row_lent : take (row_size * i + get_or counts i 0 - row_size * i) (drop (row_size * i) rows) ≡ row_in rows counts i
  row_lent = ap (λ (n : ℕ). take n (drop (row_size * i) rows)) {x = row_size * i + get_or counts i 0 - row_size * i} {y = get_or counts i 0} (omega arith)

  pub row_below : RowFits rows counts i → AllBelow marks_size (row_in rows counts i)
  row_below fits j k =
      let r = ∈_get_d 0 k in
      let here : r.0 < get_or counts i 0 = omega (arith, r.1, row_length fits) in
      omega (arith, r.2, row_at fits r.0 here, fits.small r.0 here)

-- ---- what is marked
mark_one : (marks : List ℕ) (j i : ℕ) → i < length marks → is_placed (set marks j 1) i ≡ is_placed marks i || eqb i j
mark_one marks j i h = ⊎_elim same other (decide (eqb i j))
  where
    same : T (eqb i j) → is_placed (set marks j 1) i ≡ is_placed marks i || eqb i j
    same t =
        let e : i ≡ j = eqb→eq i j t in
        ap (λ (n : ℕ). is_placed (set marks j 1) n) e ∙ ap (λ (x : ℕ). not (eqb x 0)) (get_or-set_same marks j 1 0 (omega arith))
        ∙ sym (ap (λ (b : Bool). is_placed marks i || b) (eq-eqb i j e) ∙ or-true (is_placed marks i))

    other : T (not (eqb i j)) → is_placed (set marks j 1) i ≡ is_placed marks i || eqb i j
    other t =
        let e : i ≡ j → ⊥ = not_eqb i j t in
        ap (λ (x : ℕ). not (eqb x 0)) (get_or-set_other marks j i 1 0 e) ∙ sym (ap (λ (b : Bool). is_placed marks i || b) (ne_eqb i j e) ∙ or-false (is_placed marks i))

marked_is : (marks l : List ℕ) (i : ℕ) → i < length marks → is_placed (marked marks l) i ≡ is_placed marks i || has i l
marked_is marks [] i h = sym (or-false (is_placed marks i))
marked_is marks (j ∷ l) i h =
    marked_is (set marks j 1) l i (omega (arith, length-set marks j 1)) ∙ ap (λ (b : Bool). b || has i l) (mark_one marks j i h) ∙ or_assoc (is_placed marks i) (eqb i j) (has i l)

-- of marks that were all zero: the indices that were marked
pub fresh_marked : (l : List ℕ) (i : ℕ) → i < marks_size → is_placed (marked (replicate marks_size 0) l) i ≡ has i l
fresh_marked l i h =
    marked_is (replicate marks_size 0) l i (omega (arith, length-replicate {A = ℕ} marks_size 0))
    ∙ ap (λ (x : ℕ). not (eqb x 0) || has i l) (get_or-replicate marks_size i 0 0 h)
