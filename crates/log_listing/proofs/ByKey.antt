-- The deltas of a table by key: what is looked at, and that the first that is ready comes next.
use Rattle.std.specs.Prelude.{Option as Found, ◌≡◌, List, ℕ, ◌≤◌, ◌<◌, length, get_or, take}
use Rattle.std.proofs.Common.{◌∙◌, subst, arith, length-take-le}
use Rattle.model.specs.Layout.{capacity}
use Rattle.set_table.specs.Table.{set_in, Holds}
use Rattle.set_table.specs.TableLaws.{deltas_length}
use Rattle.set_needs.specs.RowLaws.{rows_fit}
use Rattle.log_prepared.specs.Keys.{PreparedRight}
use Rattle.log_sorting.specs.Sorted.{Sorted}
use Rattle.log_sorting.specs.SortedLaws.{sorted_take}
use Rattle.log_listing.specs.Next.{Lookable, Skips, FirstReady, NextRight}
use Rattle.log_listing.specs.NextLaws.{skips_on, next_right}

module _ (pool starts : List ℕ) (holds : Holds pool starts) where
  pub size : length starts ≡ length (set_in pool starts).deltas
  size = let e = deltas_length pool starts in omega arith

  pub fits : length starts ≤ capacity
  fits = omega (arith, size, holds.fits)

  module _ (rows counts keys sorted : List ℕ) (prepared : PreparedRight (set_in pool starts) rows counts keys) (room : length sorted ≡ capacity) (ordered : Sorted keys sorted (length starts)) where
    all : length (take (length starts) sorted) ≡ length starts
    all = length-take-le (length starts) sorted (omega (arith, room, fits))

    by_key : Sorted keys (take (length starts) sorted) (length (set_in pool starts).deltas)
    by_key = subst (Sorted keys (take (length starts) sorted)) size (sorted_take keys sorted (length starts) ordered)

    small : (q : ℕ) → q < length (take (length starts) sorted) → get_or (take (length starts) sorted) q 0 < length (set_in pool starts).deltas
    small q h = by_key.inside q (omega (arith, all, size))

    pub lookable : Lookable rows counts (take (length starts) sorted)
    lookable = record {
      marked = λ q h. omega (arith, small q h, holds.fits);
      rows_fit = λ q h. rows_fit (set_in pool starts) holds prepared.needs (get_or (take (length starts) sorted) q 0) (small q h);
    }

    -- all before the place that was skipped to are placed, and so what was found is what comes next
    pub comes_next : (placed : List ℕ) (first from : ℕ) → Skips (take (length starts) sorted) placed 0 first → Skips (take (length starts) sorted) placed first from
        → (r : Found ℕ) → FirstReady rows counts (take (length starts) sorted) placed from r → NextRight (set_in pool starts) placed r
    comes_next placed first from before here r f =
        next_right (set_in pool starts) holds rows counts keys (take (length starts) sorted) placed prepared.needs prepared.keyed (all ∙ size) by_key
        from (skips_on (take (length starts) sorted) placed first from before here) r f
