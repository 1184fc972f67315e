-- The deltas of a table, looked at one after the other, and pass after pass.
use Rattle.std.proofs.Common.{◌≡◌, List, ℕ, ◌+◌, ◌-◌, ◌≤◌, ◌<◌, length, replicate, subst, arith}
use Rattle.model.specs.Layout.{capacity}
use Rattle.set_table.specs.Table.{set_in, Holds}
use Rattle.set_table.specs.TableLaws.{deltas_length}
use Rattle.set_readiness.specs.Ready.{marks_size}
use Rattle.set_closure.specs.Closing.{Closing, Tried, Passing, Passed, Closed}
use Rattle.set_closure.specs.ClosingLaws.{closing_none, passing_none, passing_more, passing_all}

module _ (pool starts rows counts : List ℕ) (count : ℕ) where
  pub pass_none : (placed blocks order : List ℕ) → Closing (set_in pool starts) placed blocks order count
      → Passing (set_in pool starts) rows counts count placed blocks order count 0
  pass_none placed blocks order h = passing_none (set_in pool starts) rows counts count placed blocks order h

  module _ (placed blocks order : List ℕ) (n i : ℕ) (h : Passing (set_in pool starts) rows counts count placed blocks order n i) where
    pub pass_more : (marked b o : List ℕ) (next : ℕ) → Tried (set_in pool starts) rows counts placed n i marked b o next
        → Passing (set_in pool starts) rows counts count marked b o next (i + 1)
    pass_more marked b o next t = passing_more (set_in pool starts) rows counts count placed marked b o n next i h t

    pub pass_all : length starts ≤ i → Passed (set_in pool starts) rows counts count placed blocks order n
    pass_all e = passing_all (set_in pool starts) rows counts count placed blocks order n i (omega (arith, deltas_length pool starts)) h

-- a pass that places none shows that none is ready; any other places one more, of which there are at most as many as deltas
pub close_none : (pool starts blocks order : List ℕ) → Holds pool starts → length blocks ≡ marks_size → length order ≡ capacity
    → Closing (set_in pool starts) (replicate marks_size 0) blocks order 0
close_none pool starts blocks order h e f = closing_none (set_in pool starts) h blocks order e f

module _ (pool starts rows counts : List ℕ) (count next : ℕ) (placed blocks order : List ℕ) (p : Passed (set_in pool starts) rows counts count placed blocks order next) where
  pub close_more : Closing (set_in pool starts) placed blocks order next
  close_more = p.closing

  pub close_fewer : (next ≡ count → ⊥) → length starts - next < length starts - count
  close_fewer h = omega (arith, p.grows, p.closing.few, deltas_length pool starts)

  pub close_all : next ≡ count → Closed (set_in pool starts) rows counts blocks order count
  close_all e = record { placed = placed; closing = subst (Closing (set_in pool starts) placed blocks order) e p.closing; idle = p.idle e }

pub ruleset closes = (close_none, close_more, close_fewer, close_all)

pub ruleset passes = (pass_none, pass_more, pass_all)
