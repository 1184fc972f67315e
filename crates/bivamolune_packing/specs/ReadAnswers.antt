-- What the reading calls in C promise: the number that they answer, and what the C header takes out of it.
use Rattle.std.specs.Prelude.{◌≡◌, List, ℕ, ◌+◌, ◌*◌, ◌/◌, ◌%◌, ◌≤◌, length, take, drop, ℤ}
use Rattle.model.specs.Bytes.{integer, word}
use Rattle.model.specs.Layout.{image_size}
use Rattle.model.specs.Calls.{log_message_code, log_message, setpoint}
use Rattle.read_calls.specs.Parts.{log_part}
use Rattle.bivamolune_packing.specs.Packing.{code_in}

-- ---- log message: code + 256 × size + 2^32 × offset
abbrev pub part_number : ℕ → ℕ → ℕ → ℕ
part_number code offset size = code + 256 * size + 4294967296 * offset

abbrev pub size_in : ℕ → ℕ
size_in answer = answer / 256 % 16777216

abbrev pub offset_in : ℕ → ℕ
offset_in answer = answer / 4294967296

pub record PartSmall (offset size : ℕ) : Type 0 where
  pub small : offset + size ≤ image_size

-- the code, and the part as its place in the image; beside a refusal both numbers are 0
pub record AnswersLogMessage (image : List ℕ) (place r : ℕ) : Type 0 where
  pub answer : r ≡ part_number (log_part image place).code (log_part image place).offset (log_part image place).size
  pub code_back : code_in r ≡ log_message_code image place
  pub offset_back : offset_in r ≡ (log_part image place).offset
  pub size_back : size_in r ≡ length (log_message image place)
  pub part : take (size_in r) (drop (offset_in r) image) ≡ log_message image place

-- ---- setpoint: code + 2^32 × the value's word
abbrev pub value_number : ℕ → ℤ → ℕ
value_number code value = code + 4294967296 * word value

abbrev pub value_in : ℕ → ℤ
value_in answer = integer (answer / 4294967296)

pub record AnswersSetpoint (image : List ℕ) (tag r : ℕ) : Type 0 where
  pub answer : r ≡ value_number (setpoint image tag).code (setpoint image tag).value
  pub code_back : code_in r ≡ (setpoint image tag).code
  pub value_back : value_in r ≡ (setpoint image tag).value
