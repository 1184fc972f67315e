-- A sequence and its number say the same.
use Rattle.std.specs.Prelude.{◌≡◌, List, ℕ, ◌+◌, ◌/◌, ◌%◌, ◌≤◌, ◌<◌, length}
use Rattle.std.proofs.Common.{sym, ◌∙◌, ap, ap₂, arith}
use Rattle.std.proofs.Math.Seq.{paste}
use Rattle.model.specs.Bytes.{bytes}
use Rattle.model.specs.Layout.{sequence_size}
use Rattle.buffer_reads.specs.FieldLaws.{bytes_low}
use Rattle.buffer_writes.specs.PasteLaws.{paste_halves}
use Rattle.message_sequence.specs.declared.Sequence.{Sequence}
use Rattle.message_sequence.specs.Sequence.{sequence_number, sequence_from}

pub number_from : (n : ℕ) → sequence_number (sequence_from n) ≡ n
number_from n = omega arith

pub from_number : (s : Sequence) (n : ℕ) → s.low < 4294967296 → sequence_number s ≡ n → s ≡ sequence_from n
from_number s n h e = ap₂ (λ (high low : ℕ). record { high = high; low = low }) (omega arith) (omega arith)

-- its eight high bytes, and its four low ones, are those of its number
pub sequence_written : (d : List ℕ) (at : ℕ) (s : Sequence) → at + sequence_size ≤ length d → s.low < 4294967296
    → paste (paste d at (bytes 8 s.high) 8) (at + 8) (bytes 4 s.low) 4 ≡ paste d at (bytes sequence_size (sequence_number s)) sequence_size
sequence_written d at s h k =
    let n = sequence_number s in
    let top : s.high ≡ n / 4294967296 = omega arith in
    let rest : n % 4294967296 ≡ s.low = omega arith in
    ap₂ (λ (x : ℕ) (y : List ℕ). paste (paste d at (bytes 8 x) 8) (at + 8) y 4) top (ap (bytes 4) (sym rest) ∙ bytes_low 4 0 n) ∙ paste_halves d at 8 4 n (omega arith)
