-- The reader and the writer as calls of the definitions: when they answer 0, and that each gives back what the other was given.
use Rattle.std.specs.Prelude.{◌≡◌, refl, List, ℕ, zero, suc, ◌/◌, ◌≤◌, T, length, drop}
use Rattle.std.proofs.Common.{sym, ◌∙◌, ap, subst, arith, nltb→le, take_at, le-ltb}
use Rattle.model.specs.Layout.{sequence_size, text_part_size, sequences_room, text_room}
use Rattle.model.specs.Text.{text_of, sequence_bytes_in, text_right, sequences_right, all_numbered}
use Rattle.model.specs.Codes.{lowest_code, read_sequences_conditions, write_sequences_conditions}
use Rattle.model.specs.Calls.{converted_answer, front, read_sequences, write_sequences}
use Rattle.laws_order.specs.TestLaws.{is_true}
use Rattle.laws_codes.specs.Ladder.{none, free, passes, all_free, not_not}
use Rattle.laws_text.specs.AnswerLaws.{code_is, read_told, write_told}
use Rattle.laws_text.specs.TextLaws.{Sequences, sized_out, sized_in, text_length, written_reads, written_right, Text, text_out, read_sized, read_writes}

-- ---- an answer of 0
front_is : (new buffer : List ℕ) → front (converted_answer 0 new buffer) ≡ new
front_is new buffer = take_at new (drop (length new) buffer) (length new) refl

-- ---- the reader
record Readable (t buffer : List ℕ) : Type 0 where
  room : sequences_room ≤ length buffer
  formed : T (text_right t)
  numbers : T (all_numbered (sequence_bytes_in t))

reads : (t buffer : List ℕ) → Readable t buffer → read_sequences t buffer ≡ converted_answer 0 (sequence_bytes_in t) buffer
reads t buffer r =
    sym (read_told t buffer (free (le-ltb (length buffer) sequences_room r.room) (passes (sym (is_true (text_right t) r.formed)) (passes (sym (is_true (all_numbered (sequence_bytes_in t)) r.numbers)) none))))

readable : (t buffer : List ℕ) → (read_sequences t buffer).code ≡ 0 → Readable t buffer
unfolding read_sequences
readable t buffer e =
    let n = all_free (read_sequences_conditions t (length buffer)) (omega arith) (sym (code_is (sequence_bytes_in t) buffer (lowest_code (read_sequences_conditions t (length buffer)))) ∙ e) in
    record { room = nltb→le (length buffer) sequences_room n.0; formed = not_not (text_right t) n.1.0; numbers = not_not (all_numbered (sequence_bytes_in t)) n.1.1.0 }

-- ---- the writer
record Writable (b buffer : List ℕ) : Type 0 where
  room : text_room ≤ length buffer
  formed : T (sequences_right b)
  numbers : T (all_numbered b)

writes : (b buffer : List ℕ) → Writable b buffer → write_sequences b buffer ≡ converted_answer 0 (text_of b) buffer
writes b buffer w =
    sym (write_told b buffer (free (le-ltb (length buffer) text_room w.room) (passes (sym (is_true (sequences_right b) w.formed)) (passes (sym (is_true (all_numbered b) w.numbers)) none))))

writable : (b buffer : List ℕ) → (write_sequences b buffer).code ≡ 0 → Writable b buffer
unfolding write_sequences
writable b buffer e =
    let n = all_free (write_sequences_conditions b (length buffer)) (omega arith) (sym (code_is (text_of b) buffer (lowest_code (write_sequences_conditions b (length buffer)))) ∙ e) in
    record { room = nltb→le (length buffer) text_room n.0; formed = not_not (sequences_right b) n.1.0; numbers = not_not (all_numbered b) n.1.1.0 }

-- ---- "Reading a written list yields the sequences"
pub written_read : (b buffer : List ℕ) → (write_sequences b buffer).code ≡ 0 → (out : List ℕ) → sequences_room ≤ length out
    → read_sequences (front (write_sequences b buffer)) out ≡ converted_answer 0 b out
written_read b buffer e out h =
    ap (λ (t : List ℕ). read_sequences t out) (ap front (writes b buffer w) ∙ front_is (text_of b) buffer)
    ∙ reads (text_of b) out (record { room = h; formed = written_right b s; numbers = subst (λ (x : List ℕ). T (all_numbered x)) (sym (written_reads b s)) w.numbers })
    ∙ ap (λ (x : List ℕ). converted_answer 0 x out) (written_reads b s)
  where
    w : Writable b buffer
    w = writable b buffer e

    s : Sequences b (length b / sequence_size)
    s = sized_out b w.formed

-- ---- "a text that is read is the one that would be written"
pub read_written : (t buffer : List ℕ) → (read_sequences t buffer).code ≡ 0 → (out : List ℕ) → text_room ≤ length out
    → write_sequences (front (read_sequences t buffer)) out ≡ converted_answer 0 t out
read_written t buffer e out h =
    ap (λ (b : List ℕ). write_sequences b out) (ap front (reads t buffer r) ∙ front_is (sequence_bytes_in t) buffer)
    ∙ writes (sequence_bytes_in t) out (record { room = h; formed = sized_in (sequence_bytes_in t) (suc (length t) / text_part_size) (read_sized t x); numbers = r.numbers })
    ∙ ap (λ (b : List ℕ). converted_answer 0 b out) (read_writes t x)
  where
    r : Readable t buffer
    r = readable t buffer e

    x : Text t (suc (length t) / text_part_size)
    x = text_out t r.formed

-- ---- what either writes fits the least buffer that it asks for
pub read_short : (t buffer : List ℕ) → (read_sequences t buffer).size ≤ sequences_room
unfolding read_sequences
read_short t buffer = go (lowest_code (read_sequences_conditions t (length buffer))) (readable t buffer)
  where
    go : (n : ℕ) → ((converted_answer n (sequence_bytes_in t) buffer).code ≡ 0 → Readable t buffer) → (converted_answer n (sequence_bytes_in t) buffer).size ≤ sequences_room
    go zero f = let s = read_sized t (text_out t (f refl).formed) in omega (arith, s.whole, s.most)
    go (suc n) f = omega arith

pub write_short : (b buffer : List ℕ) → (write_sequences b buffer).size ≤ text_room
unfolding write_sequences
write_short b buffer = go (lowest_code (write_sequences_conditions b (length buffer))) (writable b buffer)
  where
    go : (n : ℕ) → ((converted_answer n (text_of b) buffer).code ≡ 0 → Writable b buffer) → (converted_answer n (text_of b) buffer).size ≤ text_room
    go zero f = let s = sized_out b (f refl).formed in omega (arith, text_length b s, s.most)
    go (suc n) f = omega arith
