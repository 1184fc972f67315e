-- What a log is run from where nothing was purged: zeros.
use Rattle.std.specs.Prelude.{◌≡◌, refl, List, [], ◌∷◌, ℕ, length, replicate, ℤ, pos, negsuc, T, leb}
use Rattle.std.proofs.Common.{◌∙◌, ap, ap₂, arith, leb→le}
use Rattle.model.specs.Lists.{every}
use Rattle.model.specs.Layout.{tag_count}
use Rattle.model.specs.Order.{Origin, is_zero, origin_right}
use Rattle.laws_order.specs.TestLaws.{and_l, and_r}
use Rattle.laws_origin.specs.OriginLaws.{base_length, zero_without_floors}

zero_is : (v : ℤ) → T (is_zero v) → v ≡ pos 0
zero_is (pos n) t = ap pos (omega (arith, leb→le n 0 (and_l (leb n 0) (leb 0 n) t)))
zero_is (negsuc n) t = absurd t

zeros_are : (l : List ℤ) → T (every is_zero l) → l ≡ replicate (length l) (pos 0)
zeros_are [] t = refl
zeros_are (v ∷ l) t = ap₂ ◌∷◌ (zero_is v (and_l (is_zero v) (every is_zero l) t)) (zeros_are l (and_r (is_zero v) (every is_zero l) t))

pub base_zeros : (O : Origin) → T (origin_right O) → length O.floors ≡ 0 → O.base ≡ replicate tag_count (pos 0)
base_zeros O right none =
    let t = zero_without_floors O right none in
    zeros_are O.base (search (and_l, and_r) depth 5) ∙ ap (λ (n : ℕ). replicate n (pos 0)) (base_length O right)
