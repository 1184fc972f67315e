-- Whether a delta is ready, one mark after the other.
use Rattle.std.specs.Prelude.{◌≡◌, Bool, true, false, not, ◌&&◌, List, ℕ, ◌+◌, ◌≤◌, ◌<◌, get_or, drop}
use Rattle.std.proofs.Common.{sym, ◌∙◌, ap, arith, length, eq-eqb, ne_eqb}
use Rattle.model.specs.Lists.{every}
use Rattle.set_needs.specs.Rows.{row_in}
use Rattle.set_readiness.proofs.Row.{Row, row_cut, needs_length, need_at, need_small}
use Rattle.set_readiness.specs.Ready.{is_placed, ready_in}
use Rattle.set_readiness.specs.ReadyLaws.{every_row, row_done, ready_marked, ready_unmarked}

-- Whether the needs from the k-th on are placed.
unfoldable pub rest_placed : List ℕ → List ℕ → List ℕ → ℕ → ℕ → Bool
rest_placed rows counts placed i k = every (is_placed placed) (drop k (row_in rows counts i))

module _ (rows counts placed : List ℕ) (i : ℕ) where
  pub placed_itself : (get_or placed i 0 ≡ 0 → ⊥) → ready_in rows counts placed i ≡ false
  placed_itself h = ready_marked rows counts placed i (ap not (ne_eqb _ _ h))

  pub not_placed : get_or placed i 0 ≡ 0 → ready_in rows counts placed i ≡ rest_placed rows counts placed i 0
  unfolding rest_placed
  not_placed h = ready_unmarked rows counts placed i (ap not (eq-eqb _ _ h))

  module _ (needs : List ℕ) (r : Row rows counts i needs) (k : ℕ) where
    pub need_waits : k < length needs → get_or placed (get_or needs k 0) 0 ≡ 0 → rest_placed rows counts placed i k ≡ false
    unfolding rest_placed
    need_waits h e =
        every_row rows counts i r.fits (is_placed placed) k (omega (arith, needs_length rows counts i needs r))
        ∙ ap (λ (t : Bool). t && every (is_placed placed) (drop (k + 1) (row_in rows counts i)))
        (ap (λ (n : ℕ). is_placed placed n) (sym (need_at rows counts i needs r k h)) ∙ ap not (eq-eqb _ _ e))

    pub need_placed : k < length needs → (get_or placed (get_or needs k 0) 0 ≡ 0 → ⊥)
        → rest_placed rows counts placed i k ≡ rest_placed rows counts placed i (k + 1)
    unfolding rest_placed
    need_placed h e =
        every_row rows counts i r.fits (is_placed placed) k (omega (arith, needs_length rows counts i needs r))
        ∙ ap (λ (t : Bool). t && every (is_placed placed) (drop (k + 1) (row_in rows counts i)))
        (ap (λ (n : ℕ). is_placed placed n) (sym (need_at rows counts i needs r k h)) ∙ ap not (ne_eqb _ _ e))

    pub no_need_left : length needs ≤ k → rest_placed rows counts placed i k ≡ true
    unfolding rest_placed
    no_need_left h = row_done rows counts i r.fits (is_placed placed) k (omega (arith, needs_length rows counts i needs r))

pub ruleset waiting = (row_cut, need_small, placed_itself, not_placed, need_waits, need_placed, no_need_left)
