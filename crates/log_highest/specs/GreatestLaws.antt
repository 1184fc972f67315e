-- The greatest over a list, taken one item at a time.
use Rattle.std.specs.Prelude.{◌≡◌, List, ℕ, ◌+◌, ◌≤◌, ◌<◌, max, length, get_or, drop}
use Rattle.std.proofs.Common.{arith}
use Rattle.model.specs.Lists.{greatest}
use Rattle.laws_order.specs.ScanLaws.{greatest_step, greatest_end}

-- the greatest so far, and that of those that are left
module _ {A : Type 0} (f : A → ℕ) (l : List A) (k so : ℕ) {n : ℕ} (is : n ≡ max so (greatest f (drop k l))) where
  pub greatest_next : {m : ℕ} (d : A) → k < length l → m ≡ max so (f (get_or l k d)) → n ≡ max m (greatest f (drop (k + 1) l))
  greatest_next d h e = omega (arith, greatest_step f l k d h)

  pub greatest_last : length l ≤ k → so ≡ n
  greatest_last h = omega (arith, greatest_end f l k h)
