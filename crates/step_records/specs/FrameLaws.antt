-- A step's bytes, written in parts: its head, zeros in the unused pairs, and the pairs between.
use Rattle.std.specs.Prelude.{◌≡◌, List, ◌∷◌, ◌++◌, ℕ, ◌+◌, ◌*◌, ◌-◌, ◌/◌, ◌%◌, ◌≤◌, ◌<◌, length, take, drop, replicate}
use Rattle.std.proofs.Common.{sym, ◌∙◌, ap, ap₂, append_assoc, arith}
use Rattle.std.proofs.lemmas.List.{length-replicate, replicate-append-replicate, take-append-le}
use Rattle.std.proofs.Math.Seq.{paste}
use Rattle.std.proofs.lemmas.List.Edits.{length-paste}
use Rattle.model.specs.Bytes.{bytes}
use Rattle.model.specs.Layout.{most_commands, pair_count_size, step_sequence_at, pairs_at, pair_size, pairs_size, step_size}
use Rattle.model.specs.Steps.{StepRecord, head_bytes, pairs_bytes, record_bytes}
use Rattle.laws_wire.specs.StepBytesLaws.{Fits, length_step, length_pairs}
use Rattle.buffer_reads.specs.FieldLaws.{bytes_split, bytes_low}
use Rattle.buffer_writes.specs.PasteLaws.{paste_paste, paste_behind}
use Rattle.step_records.specs.Frame.{framed}
use Rattle.step_pairs.specs.Pairs.{with_pairs}

-- ---- the head
-- its first four bytes are the kind and the count of pairs
pub kind_bytes : (kind count : ℕ) → kind < 256 → count < 16777216 → bytes step_sequence_at (kind * 16777216 + count) ≡ kind ∷ bytes pair_count_size count
kind_bytes kind count h k =
    let n = kind * 16777216 + count in
    let top : n / 16777216 / 1 % 256 ≡ kind = omega arith in
    let rest : n % 16777216 ≡ count = omega arith in
    bytes_split 1 3 n ∙ ap₂ ◌∷◌ top (sym (bytes_low 3 0 n) ∙ ap (bytes 3) rest)

-- ---- the whole
-- so many of the zeros
zeros_cut : (n : ℕ) → n ≤ pairs_size → take n (replicate {A = ℕ} pairs_size 0) ≡ take n (replicate {A = ℕ} n 0)
zeros_cut n h =
    let e : n + (pairs_size - n) ≡ pairs_size = omega arith in
    ap (λ (k : ℕ). take n (replicate {A = ℕ} k 0)) (sym e) ∙ ap (take n) (sym (replicate-append-replicate {A = ℕ} n (pairs_size - n) 0))
    ∙ take-append-le n (replicate {A = ℕ} n 0) (replicate {A = ℕ} (pairs_size - n) 0) (omega (arith, length-replicate {A = ℕ} n 0))

pub record_parts : (b : List ℕ) (at : ℕ) (r : StepRecord) → at + step_size ≤ length b → Fits r
    → with_pairs (framed b at (head_bytes r.step (length r.pairs)) (length r.pairs)) (at + pairs_at) r.pairs ≡ paste b at (record_bytes r) step_size
unfolding record_bytes
record_parts b at r h k =
    ap (λ (x : List ℕ). paste (take behind headed ++ x ++ drop (behind + unused) headed) (at + pairs_at) (pairs_bytes r.pairs) used) (zeros_cut unused (omega arith))
    ∙ paste_behind headed (at + pairs_at) (pairs_bytes r.pairs) (replicate unused 0) used unused (omega (arith, same_length)) (length_pairs r.pairs)
    ∙ paste_paste b at head (pairs_bytes r.pairs ++ replicate unused 0) pairs_at (used + unused) (omega arith) (length_step r.step count)
    ∙ ap₂ (paste b at) {u = pairs_at + (used + unused)} {v = step_size} (sym (append_assoc head (pairs_bytes r.pairs) (replicate unused 0)) ∙ ap (λ (n : ℕ). head ++ pairs_bytes r.pairs ++ replicate n 0) rest) (omega arith)
  where
    count : ℕ
    count = length r.pairs

    used : ℕ
    used = pair_size * count

    unused : ℕ
    unused = pairs_size - used

    behind : ℕ
    behind = at + pairs_at + used

    head : List ℕ
    head = head_bytes r.step count

    headed : List ℕ
    headed = paste b at head pairs_at

    same_length : length headed ≡ length b
    same_length = length-paste b at head pairs_at (omega arith) (omega (arith, length_step r.step count))

    rest : unused ≡ pair_size * (most_commands - count)
    rest = omega arith
