-- The greatest of a row's numbers, one need after the other.
use Rattle.std.proofs.Common.{◌≡◌, List, ℕ, ◌+◌, ◌*◌, ◌-◌, ◌≤◌, ◌<◌, max, length, get_or, take, drop, refl, sym, ◌∙◌, ap, arith}
use Rattle.model.specs.Lists.{greatest}
use Rattle.set_needs.specs.Rows.{row_size, row_in, RowFits}
use Rattle.set_readiness.specs.Ready.{greatest_along}
use Rattle.set_readiness.specs.ReadyLaws.{greatest_row, greatest_done}
use Rattle.set_readiness.proofs.Row.{Row, row_cut, needs_length, need_at, need_small}

-- The greatest so far and the numbers of the needs from the k-th on make up the greatest.
pub record Greatest (rows counts numbers : List ℕ) (i own : ℕ) (needs : List ℕ) (k most : ℕ) : Type 0 where
  pub row : Row rows counts i needs
  pub whole : greatest_along rows counts numbers i own ≡ max most (greatest (λ j. get_or numbers j 0) (drop k (row_in rows counts i)))

pub greatest_none : (rows counts numbers : List ℕ) (i own : ℕ) → RowFits rows counts i
    → Greatest rows counts numbers i own (take (row_size * i + get_or counts i 0 - row_size * i) (drop (row_size * i) rows)) 0 own
unfolding greatest_along
greatest_none rows counts numbers i own h = record { row = row_cut rows counts i h; whole = refl }

module _ (rows counts numbers : List ℕ) (i own : ℕ) (needs : List ℕ) (k most : ℕ) (g : Greatest rows counts numbers i own needs k most) where
  abbrev number : ℕ → ℕ
  number j = get_or numbers j 0

  abbrev rest : ℕ
  rest = greatest number (drop (k + 1) (row_in rows counts i))

  regroup : (a b c : ℕ) → max a (max b c) ≡ max (max a b) c
  regroup a b c = omega arith

  pub greatest_more : k < length needs → (next : ℕ) → next ≡ max most (get_or numbers (get_or needs k 0) 0) → Greatest rows counts numbers i own needs (k + 1) next
  greatest_more h next e = record {
    row = g.row;
    whole =
        g.whole ∙ ap (max most) (greatest_row rows counts i g.row.fits number k (omega (arith, needs_length rows counts i needs g.row))
        ∙ ap (λ (j : ℕ). max (number j) rest) (sym (need_at rows counts i needs g.row k h)))
        ∙ regroup most (number (get_or needs k 0)) rest ∙ ap (λ (b : ℕ). max b rest) (sym e);
  }

  pub greatest_all : length needs ≤ k → most ≡ greatest_along rows counts numbers i own
  greatest_all h =
      let none = greatest_done rows counts i g.row.fits number k (omega (arith, needs_length rows counts i needs g.row)) in
      sym (g.whole ∙ ap (max most) none ∙ omega arith)

pub ruleset greatest_so_far = (need_small, greatest_none, greatest_more, greatest_all)
