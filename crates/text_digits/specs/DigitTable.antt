-- A table that has each character's digit, and how one is known.
use Rattle.std.specs.Prelude.{◌≡◌, Bool, List, ℕ, ◌<◌, T, eqb, length, get_or}
use Rattle.std.proofs.Common.{arith, eqb→eq}
use Rattle.model.specs.Text.{digit_of}
use Rattle.text_digits.specs.TableLaws.{every_place, at_place}

pub record HasDigits (table : List ℕ) : Type 0 where
  pub rule : (c : ℕ) → c < 256 → get_or table c 0 ≡ digit_of c

-- the test of one character
abbrev pub digit_right : ℕ → ℕ → Bool
digit_right c x = eqb x (digit_of c)

pub has_digits : (table : List ℕ) → length table ≡ 256 → T (every_place digit_right 0 table) → HasDigits table
has_digits table e t = record { rule = λ c h. eqb→eq (get_or table c 0) (digit_of c) (at_place digit_right table t c (omega arith)) }
