-- The needs of a row, as the slice that they stand in.
use Rattle.std.proofs.Common.{◌≡◌, List, ℕ, ◌+◌, ◌*◌, ◌-◌, ◌≤◌, ◌<◌, length, get_or, take, drop, ◌∙◌, ap, arith}
use Rattle.set_needs.specs.Names.{missing}
use Rattle.set_needs.specs.Rows.{row_size, row_in, RowFits}
use Rattle.set_needs.specs.RowLaws.{row_length, row_at}

pub record Row (rows counts : List ℕ) (i : ℕ) (needs : List ℕ) : Type 0 where
  pub is : needs ≡ row_in rows counts i
  pub fits : RowFits rows counts i

pub row_cut : (rows counts : List ℕ) (i : ℕ) → RowFits rows counts i
    → Row rows counts i (take (row_size * i + get_or counts i 0 - row_size * i) (drop (row_size * i) rows))
row_cut rows counts i h = record {
  is = ap (λ (n : ℕ). take n (drop (row_size * i) rows)) {x = row_size * i + get_or counts i 0 - row_size * i} {y = get_or counts i 0} (omega arith);
  fits = h;
}

module _ (rows counts : List ℕ) (i : ℕ) (needs : List ℕ) (r : Row rows counts i needs) where
  pub needs_length : length needs ≡ get_or counts i 0
  needs_length = ap length r.is ∙ row_length r.fits

  pub need_at : (k : ℕ) → k < length needs → get_or needs k 0 ≡ get_or rows (row_size * i + k) 0
  need_at k h = ap (λ (l : List ℕ). get_or l k 0) r.is ∙ row_at r.fits k (omega (arith, needs_length))

  pub need_small : (k : ℕ) → k < length needs → get_or needs k 0 ≤ missing
  need_small k h = omega (arith, need_at k h, r.fits.small k (omega (arith, needs_length)))
