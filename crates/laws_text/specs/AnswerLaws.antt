-- What the reader and the writer answer, by their code.
use Rattle.std.specs.Prelude.{◌≡◌, refl, List, ℕ, zero, suc, length}
use Rattle.std.proofs.Common.{sym, ap}
use Rattle.model.specs.Text.{text_of, sequence_bytes_in}
use Rattle.model.specs.Codes.{lowest_code, read_sequences_conditions, write_sequences_conditions}
use Rattle.model.specs.Calls.{converted_answer, read_sequences, write_sequences}
use Rattle.laws_codes.specs.Ladder.{Answers}

module _ (new buffer : List ℕ) where
  -- the code of an answer is the one that was found
  pub code_is : (n : ℕ) → (converted_answer n new buffer).code ≡ n
  code_is zero = refl
  code_is (suc n) = refl

  -- a refusal writes nothing, and its length is 0
  refused : (n : ℕ) → ¬ ((converted_answer n new buffer).code ≡ 0) → ((converted_answer n new buffer).size ≡ 0) × ((converted_answer n new buffer).buffer ≡ buffer)
  refused zero h = absurd (h refl)
  refused (suc n) h = (refl, refl)

-- ---- the reader
pub read_told : (t buffer : List ℕ) {n : ℕ} → Answers (read_sequences_conditions t (length buffer)) n → converted_answer n (sequence_bytes_in t) buffer ≡ read_sequences t buffer
unfolding read_sequences
read_told t buffer r = ap (λ (n : ℕ). converted_answer n (sequence_bytes_in t) buffer) (sym r.is)

pub read_code : (t buffer : List ℕ) → (read_sequences t buffer).code ≡ lowest_code (read_sequences_conditions t (length buffer))
unfolding read_sequences
read_code t buffer = code_is (sequence_bytes_in t) buffer (lowest_code (read_sequences_conditions t (length buffer)))

pub read_refused : (t buffer : List ℕ) → ¬ ((read_sequences t buffer).code ≡ 0) → ((read_sequences t buffer).size ≡ 0) × ((read_sequences t buffer).buffer ≡ buffer)
unfolding read_sequences
read_refused t buffer h = refused (sequence_bytes_in t) buffer (lowest_code (read_sequences_conditions t (length buffer))) h

-- ---- the writer
pub write_told : (b buffer : List ℕ) {n : ℕ} → Answers (write_sequences_conditions b (length buffer)) n → converted_answer n (text_of b) buffer ≡ write_sequences b buffer
unfolding write_sequences
write_told b buffer r = ap (λ (n : ℕ). converted_answer n (text_of b) buffer) (sym r.is)

pub write_code : (b buffer : List ℕ) → (write_sequences b buffer).code ≡ lowest_code (write_sequences_conditions b (length buffer))
unfolding write_sequences
write_code b buffer = code_is (text_of b) buffer (lowest_code (write_sequences_conditions b (length buffer)))

pub write_refused : (b buffer : List ℕ) → ¬ ((write_sequences b buffer).code ≡ 0) → ((write_sequences b buffer).size ≡ 0) × ((write_sequences b buffer).buffer ≡ buffer)
unfolding write_sequences
write_refused b buffer h = refused (text_of b) buffer (lowest_code (write_sequences_conditions b (length buffer))) h
