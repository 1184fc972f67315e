-- Tests over a list, taken one item at a time: what is left from a place on.
use Rattle.std.specs.Prelude.{◌≡◌, Bool, true, false, not, ◌&&◌, ◌||◌, List, ℕ, suc, ◌+◌, ◌≤◌, ◌<◌, max, T, eqb, ltb, length, drop, get_or}
use Rattle.std.proofs.Common.{ap, ⊎_elim, arith, add-one, ltb→lt, nltb→le, drop_of_length-le, drop-cons}
use Rattle.model.specs.Lists.{every, greatest, has, ascending}
use Rattle.laws_order.specs.TestLaws.{decide}

pub every_step : {A : Type 0} (p : A → Bool) (l : List A) (k : ℕ) (d : A) → k < length l
    → every p (drop k l) ≡ p (get_or l k d) && every p (drop (k + 1) l)
every_step p l k d h = rw (add-one, drop-cons l k d)

pub every_end : {A : Type 0} (p : A → Bool) (l : List A) (k : ℕ) → length l ≤ k → every p (drop k l) ≡ true
every_end p l k h = rw (drop_of_length-le l h)

pub greatest_step : {A : Type 0} (f : A → ℕ) (l : List A) (k : ℕ) (d : A) → k < length l
    → greatest f (drop k l) ≡ max (f (get_or l k d)) (greatest f (drop (k + 1) l))
greatest_step f l k d h = rw (add-one, drop-cons l k d)

pub greatest_end : {A : Type 0} (f : A → ℕ) (l : List A) (k : ℕ) → length l ≤ k → greatest f (drop k l) ≡ 0
greatest_end f l k h = rw (drop_of_length-le l h)

pub has_step : (s : ℕ) (l : List ℕ) (k : ℕ) → k < length l → has s (drop k l) ≡ eqb s (get_or l k 0) || has s (drop (k + 1) l)
has_step s l k h = rw (add-one, drop-cons l k 0)

pub has_end : (s : ℕ) (l : List ℕ) (k : ℕ) → length l ≤ k → has s (drop k l) ≡ false
has_end s l k h = rw (drop_of_length-le l h)

pub ascending_step : (l : List ℕ) (k : ℕ) → k + 1 < length l
    → ascending (drop k l) ≡ ltb (get_or l k 0) (get_or l (k + 1) 0) && ascending (drop (k + 1) l)
ascending_step l k h =
    let here : k < length l = omega arith in
    let next : suc k < length l = omega arith in
    rw (add-one, drop-cons l k 0, drop-cons l (suc k) 0)

pub ascending_end : (l : List ℕ) (k : ℕ) → length l ≤ k + 1 → ascending (drop k l) ≡ true
ascending_end l k h = ⊎_elim last past (decide (ltb k (length l)))
  where
    last : T (ltb k (length l)) → ascending (drop k l) ≡ true
    last t = let here : k < length l = ltb→lt k (length l) t in let over : length l ≤ suc k = omega arith in rw (drop-cons l k 0, drop_of_length-le l over)

    past : T (not (ltb k (length l))) → ascending (drop k l) ≡ true
    past t = rw (drop_of_length-le l (nltb→le k (length l) t))

-- ---- numbers that ascend by place: what is below or above one of them, all before or behind it is
module _ (f : ℕ → ℕ) (n : ℕ) (ascends : (i j : ℕ) → i < j → j < n → f i < f j) (s k : ℕ) (inside : k < n) where
  pub lower_before : f k < s → (i : ℕ) → i < k + 1 → f i < s
  lower_before h i q = ⊎_elim
      (λ t. let less : i < k = ltb→lt i k t in omega (arith, ascends i k less inside))
      (λ t. let last : k ≤ i = nltb→le i k t in let e : i ≡ k = omega arith in omega (arith, ap f e))
      (decide (ltb i k))

  pub higher_after : s < f k → (i : ℕ) → k ≤ i → i < n → s < f i
  higher_after h i p q = ⊎_elim
      (λ t. let more : k < i = ltb→lt k i t in omega (arith, ascends k i more q))
      (λ t. let last : i ≤ k = nltb→le k i t in let e : i ≡ k = omega arith in omega (arith, ap f e))
      (decide (ltb k i))
