-- What is printed so far, and what is still to come.
use Rattle.std.specs.Prelude.{◌≡◌, refl, List, [], ◌++◌, ℕ, ◌+◌, ◌≤◌, length}
use Rattle.std.proofs.Common.{◌∙◌, arith, length-append}
use Rattle.std.proofs.Math.Seq.{paste, paste-zero}
use Rattle.program_decimal.specs.Puts.{Puts}
use Rattle.program_decimal.specs.PutsLaws.{puts_puts}

-- Of the whole text, which belongs to `from` in the buffer as it was at first, all stands there but `text`, which belongs to `at`.
pub record Ahead (whole entry : List ℕ) (from : ℕ) (out : List ℕ) (at : ℕ) (text : List ℕ) : Type 0 where
  pub size : at + length text ≡ from + length whole
  pub bytes : paste out at text (length text) ≡ paste entry from whole (length whole)

pub ahead_all : (whole entry : List ℕ) (from : ℕ) → Ahead whole entry from entry from whole
ahead_all whole entry from = record { size = refl; bytes = refl }

module _ {whole entry : List ℕ} {from : ℕ} where
  pub ahead_next : {out exit : List ℕ} {at m next : ℕ} {x y : List ℕ} → at + m ≤ length out → Ahead whole entry from out at (x ++ y) → Puts out at m x next exit → Ahead whole entry from exit next y
  ahead_next {out} {exit} {at} {m} {next} {x} {y} h a p = record {
    size = omega (arith, length-append x y, a.size, p.end);
    bytes = both.bytes ∙ a.bytes;
  }
    where
      both : Puts out at (m + length y) (x ++ y) (next + length y) (paste exit next y (length y))
      both = puts_puts h p (record { few = omega arith; end = refl; bytes = refl })

  pub ahead_done : {out exit : List ℕ} {at m k r : ℕ} {text : List ℕ} → length whole ≤ k → Ahead whole entry from out at text → Puts out at m text r exit → Puts entry from k whole r exit
  ahead_done h a p = record { few = h; end = omega (arith, a.size, p.end); bytes = p.bytes ∙ a.bytes }

  -- nothing is to come
  pub ahead_none : {out : List ℕ} {at k : ℕ} → at ≤ from + k → Ahead whole entry from out at [] → Puts entry from k whole at out
  ahead_none {out} {at} h a = record { few = omega (arith, a.size); end = omega (arith, a.size); bytes = paste-zero out at [] ∙ a.bytes }
