-- A rule of a table, proved at all of its entries by one test that is computed over the whole table.
use Rattle.std.proofs.Common.{subst, sym, ◌∙◌, add-zero, zero-add, add-suc, suc-add, le_of_suc-le-suc, not-suc-le-zero}
use Rattle.std.specs.Prelude.{Bool, true, ◌&&◌, List, [], ◌∷◌, ℕ, zero, suc, ◌+◌, ◌<◌, T, length, get_or}
use Rattle.laws_order.specs.TestLaws.{and_l, and_r}

-- whether a test passes at each place and its entry, the places counted from i
abbrev pub every_place : (ℕ → ℕ → Bool) → ℕ → List ℕ → Bool
every_place f i [] = true
every_place f i (x ∷ l) = f i x && every_place f (suc i) l

from : (f : ℕ → ℕ → Bool) (l : List ℕ) (i : ℕ) → T (every_place f i l) → (k : ℕ) → k < length l → T (f (i + k) (get_or l k 0))
from f [] i t k h = absurd (not-suc-le-zero h)
from f (x ∷ l) i t zero h = subst (λ (m : ℕ). T (f m x)) (sym (add-zero i)) (and_l (f i x) (every_place f (suc i) l) t)
from f (x ∷ l) i t (suc k) h =
    subst (λ (m : ℕ). T (f m (get_or l k 0))) (suc-add i k ∙ sym (add-suc i k))
    (from f l (suc i) (and_r (f i x) (every_place f (suc i) l) t) k (le_of_suc-le-suc h))

pub at_place : (f : ℕ → ℕ → Bool) (l : List ℕ) → T (every_place f 0 l) → (k : ℕ) → k < length l → T (f k (get_or l k 0))
at_place f l t k h = subst (λ (m : ℕ). T (f m (get_or l k 0))) (zero-add k) (from f l 0 t k h)
