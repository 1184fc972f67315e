-- The calls for C that only read an image, and those of texts, as the host sees them: over their own postconditions, with code, length,
-- offset and value as the header takes them out of the answered number.
use Rattle.std.specs.Prelude.{◌≡◌, List, ℕ, take, drop}
use Rattle.std.proofs.Common.{sym, ◌∙◌, ap, ap₂}
use Rattle.std.specs.Borrow.{Bor, MutBor}
use contract.Lifetimes.{Lfts}
use Rattle.model.specs.Calls.{log_message_code, log_message, Setpoint, setpoint, Converted, read_sequences, write_sequences}
use Rattle.bivamolune_packing.specs.Packing.{code_in, length_in}
use Rattle.bivamolune_packing.specs.ReadAnswers.{size_in, offset_in, value_in, AnswersSetpoint}
use Rattle.bivamolune_packing.specs.TextAnswers.{Converts}
use Rattle.bivamolune.proofs.reads.bivamolune_log_message.Reads as message_reads
use Rattle.bivamolune.proofs.reads.bivamolune_setpoint.Reads as setpoint_reads
use Rattle.bivamolune.proofs.texts.bivamolune_read_sequences.Reads as read_reads
use Rattle.bivamolune.proofs.texts.bivamolune_write_sequences.Reads as write_reads

-- ---- log message
-- A call of `bivamolune_log_message` on the image b: the part of the image that its answer names, and the code.
pub record HostLogMessage (b : List ℕ) (place : ℕ) (part : List ℕ) (code : ℕ) : Type 0 where
  pub lifetimes : Lfts 1
  pub image : Bor (List ℕ)
  pub number : ℕ
  pub post : message_reads.Post lifetimes (image, (place, tt)) number (image, (place, tt))
  pub of : b ≡ image.now
  pub part_named : part ≡ take (size_in number) (drop (offset_in number) b)
  pub code_taken : code ≡ code_in number

pub host_log_message_as : (b : List ℕ) (place : ℕ) (part : List ℕ) (code : ℕ) → HostLogMessage b place part code → (part ≡ log_message b place) × (code ≡ log_message_code b place)
host_log_message_as b place part code c = (
  c.part_named ∙ ap (λ (x : List ℕ). take (size_in c.number) (drop (offset_in c.number) x)) c.of ∙ c.post.part ∙ ap (λ (x : List ℕ). log_message x place) (sym c.of),
  c.code_taken ∙ c.post.code_back ∙ ap (λ (x : List ℕ). log_message_code x place) (sym c.of),
)

-- ---- setpoint
-- of its answer bivamolune_setpoint_code and bivamolune_setpoint_value are taken
abbrev pub setpoint_with : ℕ → Setpoint
setpoint_with number = record { code = code_in number; value = value_in number }

-- A call of `bivamolune_setpoint` on the image b, and what it answered.
pub record HostSetpoint (b : List ℕ) (tag : ℕ) (a : Setpoint) : Type 0 where
  pub lifetimes : Lfts 1
  pub image : Bor (List ℕ)
  pub number : ℕ
  pub post : setpoint_reads.Post lifetimes (image, (tag, tt)) number (image, (tag, tt))
  pub of : b ≡ image.now
  pub answer : a ≡ setpoint_with number

setpoint_is : (b : List ℕ) (tag number : ℕ) → AnswersSetpoint b tag number → setpoint_with number ≡ setpoint b tag
setpoint_is b tag number p = λ i. record { code = p.code_back i; value = p.value_back i }

pub host_setpoint_as : (b : List ℕ) (tag : ℕ) (a : Setpoint) → HostSetpoint b tag a → a ≡ setpoint b tag
host_setpoint_as b tag a c = c.answer ∙ setpoint_is c.image.now tag c.number c.post ∙ ap (λ (x : List ℕ). setpoint x tag) (sym c.of)

-- ---- texts
-- of an answer bivamolune_code and bivamolune_written_length are taken
abbrev pub converted_with : ℕ → List ℕ → Converted
converted_with number buffer = record { code = code_in number; size = length_in number; buffer = buffer }

-- A call of `bivamolune_read_sequences` on a text, with this output buffer, and what it answered and left.
pub record HostRead (t entry : List ℕ) (a : Converted) : Type 0 where
  pub lifetimes : Lfts 2
  pub text : Bor (List ℕ)
  pub sequences_entry : MutBor (List ℕ)
  pub sequences_exit : MutBor (List ℕ)
  pub number : ℕ
  pub post : read_reads.Post lifetimes (text, (sequences_entry, tt)) number (text, (sequences_exit, tt))
  pub of : t ≡ text.now
  pub lent : entry ≡ sequences_entry.now
  pub answer : a ≡ converted_with number sequences_exit.now

-- A call of `bivamolune_write_sequences` on sequences, with this output buffer, and what it answered and left.
pub record HostWritten (b entry : List ℕ) (a : Converted) : Type 0 where
  pub lifetimes : Lfts 2
  pub sequences : Bor (List ℕ)
  pub text_entry : MutBor (List ℕ)
  pub text_exit : MutBor (List ℕ)
  pub number : ℕ
  pub post : write_reads.Post lifetimes (sequences, (text_entry, tt)) number (sequences, (text_exit, tt))
  pub of : b ≡ sequences.now
  pub lent : entry ≡ text_entry.now
  pub answer : a ≡ converted_with number text_exit.now

converted_is : (x : Converted) (number : ℕ) (exit : List ℕ) → Converts x number exit → converted_with number exit ≡ x
converted_is x number exit c = λ i. record { code = c.parts.code_back i; size = c.parts.length_back i; buffer = c.buffer_after i }

pub host_read_as : (t entry : List ℕ) (a : Converted) → HostRead t entry a → a ≡ read_sequences t entry
host_read_as t entry a c =
    c.answer ∙ converted_is (read_sequences c.text.now c.sequences_entry.now) c.number c.sequences_exit.now c.post ∙ ap₂ read_sequences (sym c.of) (sym c.lent)

pub host_written_as : (b entry : List ℕ) (a : Converted) → HostWritten b entry a → a ≡ write_sequences b entry
host_written_as b entry a c =
    c.answer ∙ converted_is (write_sequences c.sequences.now c.text_entry.now) c.number c.text_exit.now c.post ∙ ap₂ write_sequences (sym c.of) (sym c.lent)
