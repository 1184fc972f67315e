-- What Paper 2 promises of texts, over what `read_sequences` and `write_sequences` were proved to leave behind, their own
-- postconditions: each gives back what the other was given.
use Rattle.std.specs.Prelude.{◌≡◌, List, ℕ, ◌≤◌, length, Result}
use Rattle.std.proofs.Common.{sym, ◌∙◌, ap, ap₂}
use Rattle.std.specs.Borrow.{Bor, MutBor}
use contract.Lifetimes.{Lfts}
use Rattle.model.specs.Layout.{sequences_room, text_room}
use Rattle.model.specs.Calls.{Converted, converted_answer, front, read_sequences, write_sequences}
use Rattle.laws_text.specs.RoundTrips as laws
use Rattle.refusals.specs.declared.Refusal.{Refusal}
use Rattle.text_checks.specs.Answer.{converted_by}
use Rattle.text_reading.proofs.read_sequences.Reads as read_reads
use Rattle.text_writing.proofs.write_sequences.Reads as write_reads

-- A call of `read_sequences` on a text, with an output buffer that held `entry`; it answered a.
pub record ReadFrom (t entry : List ℕ) (a : Converted) : Type 0 where
  pub lifetimes : Lfts 2
  pub text : Bor (List ℕ)
  pub sequences_entry : MutBor (List ℕ)
  pub sequences_exit : MutBor (List ℕ)
  pub result : Result ℕ Refusal
  pub post : read_reads.Post lifetimes (text, (sequences_entry, tt)) result (text, (sequences_exit, tt))
  pub of : t ≡ text.now
  pub given : entry ≡ sequences_entry.now
  pub answered : a ≡ converted_by result sequences_exit.now

-- A call of `write_sequences` on sequences, with an output buffer that held `entry`; it answered a.
pub record WrittenFrom (b entry : List ℕ) (a : Converted) : Type 0 where
  pub lifetimes : Lfts 2
  pub sequences : Bor (List ℕ)
  pub text_entry : MutBor (List ℕ)
  pub text_exit : MutBor (List ℕ)
  pub result : Result ℕ Refusal
  pub post : write_reads.Post lifetimes (sequences, (text_entry, tt)) result (sequences, (text_exit, tt))
  pub of : b ≡ sequences.now
  pub given : entry ≡ text_entry.now
  pub answered : a ≡ converted_by result text_exit.now

-- each answered as the definitions do
pub reads_as : (t entry : List ℕ) (a : Converted) → ReadFrom t entry a → a ≡ read_sequences t entry
reads_as t entry a c = c.answered ∙ c.post ∙ ap₂ read_sequences (sym c.of) (sym c.given)

pub writes_as : (b entry : List ℕ) (a : Converted) → WrittenFrom b entry a → a ≡ write_sequences b entry
writes_as b entry a c = c.answered ∙ c.post ∙ ap₂ write_sequences (sym c.of) (sym c.given)

-- "Reading a written list yields the sequences": what a call wrote is read, with any buffer of 96 bytes or more, as what it was given.
pub written_read : (b entry : List ℕ) (w : Converted) → WrittenFrom b entry w → w.code ≡ 0
    → (out : List ℕ) → sequences_room ≤ length out → (a : Converted) → ReadFrom (front w) out a → a ≡ converted_answer 0 b out
written_read b entry w c e out room a r =
    let is : w ≡ write_sequences b entry = writes_as b entry w c in
    reads_as (front w) out a r ∙ ap (λ (x : Converted). read_sequences (front x) out) is
    ∙ laws.written_read b entry (sym (ap (λ (x : Converted). x.code) is) ∙ e) out room

-- "a text that is read is the one that would be written": what a call read is written, with any buffer of 199 bytes or more, as the text.
pub read_written : (t entry : List ℕ) (r : Converted) → ReadFrom t entry r → r.code ≡ 0
    → (out : List ℕ) → text_room ≤ length out → (a : Converted) → WrittenFrom (front r) out a → a ≡ converted_answer 0 t out
read_written t entry r c e out room a w =
    let is : r ≡ read_sequences t entry = reads_as t entry r c in
    writes_as (front r) out a w ∙ ap (λ (x : Converted). write_sequences (front x) out) is
    ∙ laws.read_written t entry (sym (ap (λ (x : Converted). x.code) is) ∙ e) out room
