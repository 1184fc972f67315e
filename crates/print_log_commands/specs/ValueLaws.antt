-- The value of a word: its digits, or `-` and the digits of what it lacks to 4294967296.
use Rattle.std.specs.Prelude.{◌≡◌, [], ◌∷◌, ◌++◌, ℕ, suc, ◌-◌, ◌≤◌, ◌<◌, pos, negsuc}
use Rattle.std.proofs.Common.{sym, ◌∙◌, ap, arith, lt-ltb, le-ltb}
use Rattle.model.specs.Bytes.{integer}
use Rattle.model.specs.Program.{printed_value}
use Rattle.program_decimal.specs.Puts.{numeral}

pub value_positive : (n : ℕ) → n < 2147483648 → numeral n ≡ printed_value (integer n)
unfolding printed_value numeral
value_positive n h = ap printed_value is
  where
    is : pos n ≡ integer n
    is = sym (simp (lt-ltb n 2147483648 h))

pub value_negative : (n : ℕ) → 2147483648 ≤ n → n < 4294967296 → 45 ∷ [] ++ numeral (4294967296 - n) ≡ printed_value (integer n)
unfolding printed_value numeral
value_negative n h k =
    ap (λ (x : ℕ). 45 ∷ [] ++ numeral x) {x = 4294967296 - n} {y = suc (4294967296 - suc n)} (omega arith) ∙ ap printed_value is
  where
    is : negsuc (4294967296 - suc n) ≡ integer n
    is = sym (simp (le-ltb n 2147483648 h, lt-ltb n 4294967296 k))
