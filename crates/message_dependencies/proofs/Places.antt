-- Tests over the places of a list are tests over its items.
use Rattle.std.specs.Prelude.{◌≡◌, Bool, ◌&&◌, ◌||◌, List, ℕ, zero, suc, ◌+◌, ◌-◌, length, drop, get_or, eqb, ltb}
use Rattle.std.specs.List.{range_with_len, list_all, list_any}
use Rattle.std.proofs.Common.{sym, ◌∙◌, ap, arith}
use Rattle.model.specs.Lists.{every, has, ascending}
use Rattle.laws_order.specs.ScanLaws.{every_step, every_end, has_step, has_end, ascending_step, ascending_end}

pub has_places : (s : ℕ) (l : List ℕ) (a n : ℕ) → a + n ≡ length l → list_any (λ k. eqb s (get_or l k 0)) (range_with_len a n) ≡ has s (drop a l)
has_places s l a zero e = sym (has_end s l a (omega arith))
has_places s l a (suc n) e = ap (λ (t : Bool). eqb s (get_or l a 0) || t) (has_places s l (a + 1) n (omega arith)) ∙ sym (has_step s l a (omega arith))

pub ascending_places : (l : List ℕ) (a n : ℕ) → length l - (a + 1) ≡ n
    → list_all (λ k. ltb (get_or l (k - 1) 0) (get_or l k 0)) (range_with_len (a + 1) n) ≡ ascending (drop a l)
ascending_places l a zero e = sym (ascending_end l a (omega arith))
ascending_places l a (suc n) e =
    let before : a + 1 - 1 ≡ a = omega arith in
    rw before (ap (λ (t : Bool). ltb (get_or l a 0) (get_or l (a + 1) 0) && t) (ascending_places l (a + 1) n (omega arith)) ∙ sym (ascending_step l a (omega arith)))

pub every_places : (p : ℕ → Bool) (l : List ℕ) (a n : ℕ) → a + n ≡ length l → list_all (λ k. p (get_or l k 0)) (range_with_len a n) ≡ every p (drop a l)
every_places p l a zero e = sym (every_end p l a (omega arith))
every_places p l a (suc n) e = ap (λ (t : Bool). p (get_or l a 0) && t) (every_places p l (a + 1) n (omega arith)) ∙ sym (every_step p l a 0 (omega arith))
