-- The bytes that are read, looked at alone and copied to the front of a buffer.
use Rattle.std.specs.Prelude.{◌≡◌, List, ◌++◌, ℕ, ◌+◌, ◌≤◌, T, length, take, drop}
use Rattle.std.proofs.Common.{sym, ◌∙◌, ap, ap₂, arith, take_all}
use Rattle.std.proofs.Math.Seq.{paste}
use Rattle.std.proofs.lemmas.List.Edits.{length-paste, take-paste}
use Rattle.model.specs.Layout.{sequences_room}
use Rattle.model.specs.Text.{sequence_bytes_in, text_right}
use Rattle.model.specs.Calls.{written}
use Rattle.buffer_writes.specs.PasteLaws.{front_written}
use Rattle.laws_text.specs.TextLaws.{text_out, read_length}
use Rattle.text_reading.specs.Parts.{TextRead}

module _ {text entry : List ℕ} {size : ℕ} {exit : List ℕ} (r : TextRead text entry size exit) where
  pub size_most : T (text_right text) → size ≤ sequences_room
  size_most t = let x = text_out text t in omega (arith, r.sized, read_length text x, x.most)

  pub exit_length : size ≤ length entry → length exit ≡ length entry
  exit_length h = ap length r.read ∙ length-paste entry 0 (sequence_bytes_in text) size (omega arith) (omega (arith, r.sized))

  pub bytes_are : take size exit ≡ sequence_bytes_in text
  bytes_are =
      ap₂ take {x = size} {y = 0 + size} (omega arith) r.read ∙ take-paste entry 0 (sequence_bytes_in text) size (omega arith) (omega (arith, r.sized))
      ∙ take_all size (sequence_bytes_in text) (omega (arith, r.sized))

  pub copied : (buffer : List ℕ) → paste buffer 0 exit size ≡ written (sequence_bytes_in text) buffer
  copied buffer =
      ap (λ (l : List ℕ). take 0 buffer ++ l ++ drop (0 + size) buffer) (bytes_are ∙ sym (take_all size (sequence_bytes_in text) (omega (arith, r.sized))))
      ∙ ap (paste buffer 0 (sequence_bytes_in text)) r.sized ∙ front_written (sequence_bytes_in text) buffer
