-- What a program prints: a text at the front of its buffer.
use Rattle.std.specs.Prelude.{◌≡◌, List, ℕ, ◌≤◌, length, take, drop}
use Rattle.std.proofs.Common.{sym, ◌∙◌, ap, ap₂, arith, length-take}
use Rattle.std.proofs.Math.Seq.{take-append_seam}
use Rattle.model.specs.Calls.{written}
use Rattle.buffer_writes.specs.PasteLaws.{front_written}
use Rattle.program_decimal.specs.Puts.{Puts}

-- The text stands at the front of the buffer, the rest of the buffer is as it was; `r` is its length.
pub record Prints (text entry : List ℕ) (r : ℕ) (exit : List ℕ) : Type 0 where
  pub size : r ≡ length text
  pub printed : exit ≡ written text entry

pub puts_prints : {text entry exit : List ℕ} {k r : ℕ} → Puts entry 0 k text r exit → Prints text entry r exit
puts_prints {text} {entry} p = record { size = omega (arith, p.end); printed = p.bytes ∙ front_written text entry }

-- so it is what stands at the front of the buffer, and lies within it
prints_front : {text entry exit : List ℕ} {r : ℕ} → Prints text entry r exit → take r exit ≡ text
prints_front {text} {entry} l = ap₂ (λ (n : ℕ) (b : List ℕ). take n b) l.size l.printed ∙ take-append_seam text (drop (length text) entry)

pub prints_counts : {text entry exit : List ℕ} {r : ℕ} → Prints text entry r exit → (r ≤ length exit) × (r ≡ length (take r exit))
prints_counts {exit = exit} {r = r} l =
    let counts : r ≡ length (take r exit) = l.size ∙ ap length (sym (prints_front l)) in
    (omega (arith, length-take r exit), counts)
