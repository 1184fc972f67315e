-- Tests over the places of a list are tests over its items.
use Rattle.std.specs.Prelude.{◌≡◌, Bool, ◌&&◌, List, [], ◌∷◌, map, ℕ, zero, suc, ◌+◌, ◌-◌, length, drop, get_or, ltb}
use Rattle.std.specs.List.{range_with_len, list_all, fold}
use Rattle.std.proofs.Common.{sym, ◌∙◌, ap, ap₂, arith}
use Rattle.std.proofs.Math.Bool.{and-true, and_assoc}
use Rattle.std.proofs.lemmas.List.{length-map}
use Rattle.model.specs.Lists.{every, ascending}
use Rattle.laws_order.specs.ListLaws.{get_d_map}
use Rattle.laws_order.specs.ScanLaws.{every_step, every_end, ascending_step, ascending_end}

pub ascending_places : (f : ℕ → ℕ) (l : List ℕ) (a n : ℕ) → length l - (a + 1) ≡ n
    → list_all (λ k. ltb (f (get_or l (k - 1) 0)) (f (get_or l k 0))) (range_with_len (a + 1) n) ≡ ascending (drop a (map f l))
ascending_places f l a zero e = sym (ascending_end (map f l) a (omega (arith, length-map l f)))
ascending_places f l a (suc n) e =
    let before : a + 1 - 1 ≡ a = omega arith in
    let here = get_d_map f l a 0 0 (omega arith) in
    let next = get_d_map f l (a + 1) 0 0 (omega arith) in
    rw before (ap (λ (t : Bool). ltb (f (get_or l a 0)) (f (get_or l (a + 1) 0)) && t) (ascending_places f l (a + 1) n (omega arith))
    ∙ sym (ascending_step (map f l) a (omega (arith, length-map l f)) ∙ ap₂ (λ (x y : ℕ). ltb x y && ascending (drop (a + 1) (map f l))) here next))

pub every_places : (p : ℕ → Bool) (l : List ℕ) (a n : ℕ) → a + n ≡ length l → list_all (λ k. p (get_or l k 0)) (range_with_len a n) ≡ every p (drop a l)
every_places p l a zero e = sym (every_end p l a (omega arith))
every_places p l a (suc n) e = ap (λ (t : Bool). p (get_or l a 0) && t) (every_places p l (a + 1) n (omega arith)) ∙ sym (every_step p l a 0 (omega arith))

-- a test of all items, folded from the front
pub every_fold : (p : ℕ → Bool) (t : Bool) (l : List ℕ) → fold (λ r x. r && p x) t l ≡ t && every p l
every_fold p t [] = sym (and-true t)
every_fold p t (x ∷ l) = every_fold p (t && p x) l ∙ and_assoc t (p x) (every p l)
