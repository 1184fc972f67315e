-- One text behind another is both.
use Rattle.std.specs.Prelude.{◌≡◌, refl, List, ◌++◌, ℕ, ◌+◌, ◌≤◌, length}
use Rattle.std.proofs.Common.{sym, ◌∙◌, ap, ap₂, subst, arith, length-append}
use Rattle.std.proofs.Math.Seq.{paste}
use Rattle.buffer_writes.specs.PasteLaws.{paste_paste}
use Rattle.program_decimal.specs.Puts.{Puts}

pub puts_puts : {entry : List ℕ} {at : ℕ} {x y : List ℕ} {m k next r : ℕ} {middle exit : List ℕ} → at + m ≤ length entry
    → Puts entry at m x next middle → Puts middle next k y r exit → Puts entry at (m + k) (x ++ y) r exit
puts_puts {entry} {at} {x} {y} {m} {k} {next} {r} h p q = record {
  few = omega (arith, length-append x y, p.few, q.few);
  end = omega (arith, length-append x y, p.end, q.end);
  bytes =
      q.bytes ∙ ap₂ (λ (b : List ℕ) (n : ℕ). paste b n y (length y)) p.bytes p.end
      ∙ paste_paste entry at x y (length x) (length y) (omega (arith, p.few)) refl
      ∙ ap (paste entry at (x ++ y)) (sym (length-append x y));
}

-- a text under another name, with another bound
pub puts_as : {entry : List ℕ} {at : ℕ} {x y : List ℕ} {m k r : ℕ} {exit : List ℕ} → x ≡ y → length y ≤ k → Puts entry at m x r exit → Puts entry at k y r exit
puts_as {entry} {at} {x} {y} {m} {k} {r} {exit} e h p =
    subst (λ (t : List ℕ). length t ≤ k → Puts entry at k t r exit) e (λ few. record { few = few; end = p.end; bytes = p.bytes }) h

pub puts_within : {entry : List ℕ} {at : ℕ} {x y : List ℕ} {m k r : ℕ} {exit : List ℕ} → x ≡ y → m ≤ k → Puts entry at m x r exit → Puts entry at k y r exit
puts_within e h p = puts_as e (omega (arith, p.few, ap length e)) p
