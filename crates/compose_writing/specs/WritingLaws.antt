-- The pieces of a message, pasted one behind the other, are the message at the front of the buffer.
use Rattle.std.specs.Prelude.{◌≡◌, refl, Bool, cond, Option, Some, None, List, [], ◌∷◌, ◌++◌, map, ℕ, ◌+◌, ◌*◌, ◌/◌, ◌≤◌, ◌<◌, length, drop, get_or}
use Rattle.std.proofs.Common.{sym, ◌∙◌, ap, ap₂, append-nil, append_assoc, arith, add-one, length-append, drop-cons}
use Rattle.std.proofs.Math.Bool.{true, false}
use mathlib.Core.List.Memᴰ
use Rattle.std.proofs.lemmas.List.{length-map}
use Rattle.model.specs.Bytes.{bytes}
use Rattle.model.specs.Layout.{kind_at, length_at, sequence_at, group_at, header_size, sequence_size, command_size}
use Rattle.model.specs.Compose.{message_of}
use Rattle.model.specs.Calls.{written}
use Rattle.laws_wire.specs.BytesLaws.{length_bytes, length_join}
use Rattle.message_sequence.specs.Sequence.{sequence_number}
use Rattle.message_header.specs.declared.header.Header.{Header}
use Rattle.message_header.specs.declared.header.Priority.{Priority}
use Rattle.buffer_writes.specs.PasteLaws.{front_written}
use Rattle.image_header.specs.Pieces.{pasted}
use Rattle.image_header.specs.PieceLaws.{pasted_pasted, order_pasted}
use Rattle.compose_header.specs.Numbers.{counts_bytes, offsets_bytes, order_bytes}
use Rattle.compose_writing.specs.Writing.{header_bytes, header_with, header_for, sequences_bytes, message_with, message_for}

-- ---- the header
pub header_pasted : (d : List ℕ) → header_size ≤ length d → (flag s group block priority D C : ℕ)
    → pasted (pasted (pasted (pasted d kind_at (counts_bytes flag D C)) length_at (offsets_bytes D C)) sequence_at (bytes sequence_size s)) group_at (order_bytes group block priority)
    ≡ pasted d 0 (header_bytes flag s group block priority D C)
header_pasted d room flag s group block priority D C = order_pasted d 0 (counts_bytes flag D C ∷ offsets_bytes D C ∷ bytes sequence_size s ∷ order_bytes group block priority ∷ []) room

-- ---- sequences
pub length_sequences : (names : List ℕ) → length (sequences_bytes names) ≡ sequence_size * length names
length_sequences names =
    length_join sequence_size (map (bytes sequence_size) names) (λ b k. let r = Memᴰ.of_map (bytes sequence_size) names k in ap length (sym r.2) ∙ length_bytes sequence_size r.0)
    ∙ omega (arith, length-map names (bytes sequence_size))

-- one sequence, and those behind it
pub sequences_next : (d : List ℕ) (at : ℕ) (names : List ℕ) (k n : ℕ) → k < length names → n ≡ get_or names k 0 → at + sequence_size ≤ length d
    → pasted (pasted d at (bytes sequence_size n)) (at + sequence_size) (sequences_bytes (drop (k + 1) names)) ≡ pasted d at (sequences_bytes (drop k names))
sequences_next d at names k n h e room =
    pasted_pasted d at (bytes sequence_size n) (sequences_bytes (drop (k + 1) names)) room
    ∙ ap (λ (l : List ℕ). pasted d at (sequences_bytes l)) (ap₂ (λ (x i : ℕ). x ∷ drop i names) e (add-one k) ∙ sym (drop-cons names k 0 h))

-- ---- header, sequences and commands
message_pieces : (flag : Bool) (s group block priority : ℕ) (deps commands : List ℕ) (D C : ℕ) → D ≡ length deps → C ≡ length commands / command_size
    → header_bytes (cond flag 1 0) s group block priority D C ++ sequences_bytes deps ++ commands ≡ message_of flag s group block priority deps commands
message_pieces flag s group block priority deps commands D C d c =
    ap₂ (λ (x y : ℕ). header_bytes (cond flag 1 0) s group block priority x y ++ sequences_bytes deps ++ commands) d c

module _ (h : Header) where
  pub message_is : (deps commands : List ℕ) → h.dependencies ≡ length deps → h.commands ≡ length commands / command_size
      → header_for h ++ sequences_bytes deps ++ commands ≡ message_for h deps commands
  unfolding message_for
  message_is deps commands d c = go h.priority
    where
      go : (p : Option Priority) → header_with h p ++ sequences_bytes deps ++ commands ≡ message_with h p deps commands
      go None = message_pieces false (sequence_number h.sequence) h.group 0 0 deps commands h.dependencies h.commands d c
      go (Some p) = message_pieces true (sequence_number h.sequence) h.group p.block p.priority deps commands h.dependencies h.commands d c

  pub header_length : length (header_for h) ≡ header_size
  header_length = go h.priority
    where
      go : (p : Option Priority) → length (header_with h p) ≡ header_size
      go None = refl
      go (Some p) = refl

-- the three pieces, the header at the front
pub message_written : (d : List ℕ) (h : Header) (deps commands : List ℕ) (start : ℕ) → h.dependencies ≡ length deps → h.commands ≡ length commands / command_size
    → start ≡ header_size + length (sequences_bytes deps) → start + length commands ≤ length d
    → pasted (pasted (pasted d 0 (header_for h)) header_size (sequences_bytes deps)) start commands ≡ written (message_for h deps commands) d
message_written d h deps commands start e f g room =
    let head : header_size ≡ 0 + length (header_for h) = omega (arith, header_length h) in
    let behind : start ≡ 0 + length (header_for h) + length (sequences_bytes deps) = omega (arith, header_length h) in
    ap₂ (λ (m n : ℕ). pasted (pasted (pasted d 0 (header_for h)) m (sequences_bytes deps)) n commands) head behind
    ∙ order_pasted d 0 (header_for h ∷ sequences_bytes deps ∷ commands ∷ []) (omega (arith, header_length h, size)) ∙ ap (pasted d 0) whole ∙ front_written (message_for h deps commands) d
  where
    whole : header_for h ++ (sequences_bytes deps ++ (commands ++ [])) ≡ message_for h deps commands
    whole =
        ap (λ (x : List ℕ). header_for h ++ (sequences_bytes deps ++ x)) (append-nil commands) ∙ sym (append_assoc (header_for h) (sequences_bytes deps) commands)
        ∙ message_is h deps commands e f

    size : length (header_for h ++ (sequences_bytes deps ++ (commands ++ []))) ≡ length (header_for h) + (length (sequences_bytes deps) + length commands)
    size =
        length-append (header_for h) (sequences_bytes deps ++ (commands ++ []))
        ∙ ap (λ (n : ℕ). length (header_for h) + n) (length-append (sequences_bytes deps) (commands ++ []) ∙ ap (λ (x : List ℕ). length (sequences_bytes deps) + length x) (append-nil commands))

-- how long it is
pub message_length : (h : Header) (deps commands : List ℕ) → h.dependencies ≡ length deps → h.commands ≡ length commands / command_size
    → length (message_for h deps commands) ≡ header_size + sequence_size * length deps + length commands
message_length h deps commands e f =
    ap length (sym (message_is h deps commands e f)) ∙ length-append (header_for h ++ sequences_bytes deps) commands
    ∙ ap (λ (n : ℕ). n + length commands) (length-append (header_for h) (sequences_bytes deps) ∙ ap₂ ◌+◌ (header_length h) (length_sequences deps))
