-- An answer's code and counts in one number: a byte for the code, a byte for the undos, two bytes for the executions; or a code and
-- a length. And how the C header takes the number apart.
use Rattle.std.specs.Prelude.{◌≡◌, ℕ, ◌+◌, ◌*◌, ◌/◌, ◌%◌, ◌<◌}

abbrev pub packed : ℕ → ℕ → ℕ → ℕ
packed code undos executions = code + 256 * undos + 65536 * executions

pub record AnswerFits (code undos executions : ℕ) : Type 0 where
  pub code_fits : code < 256
  pub undos_fit : undos < 256
  pub executions_fit : executions < 65536

-- bivamolune_code, bivamolune_undos and bivamolune_executions of include/bivamolune.h
abbrev pub code_in : ℕ → ℕ
code_in answer = answer % 256

abbrev pub undos_in : ℕ → ℕ
undos_in answer = answer / 256 % 256

abbrev pub executions_in : ℕ → ℕ
executions_in answer = answer / 65536

-- What the header gives back of an answer.
pub record Unpacks (answer code undos executions : ℕ) : Type 0 where
  pub code_back : code_in answer ≡ code
  pub undos_back : undos_in answer ≡ undos
  pub executions_back : executions_in answer ≡ executions

-- ---- compose, and the reader and the writer of sequences
-- A code and a length in one number: a byte for the code.
abbrev pub packed_length : ℕ → ℕ → ℕ
packed_length code size = code + 256 * size

-- bivamolune_composed_length and bivamolune_written_length of include/bivamolune.h
abbrev pub length_in : ℕ → ℕ
length_in answer = answer / 256

-- What the header gives back of an answer.
pub record LengthUnpacks (answer code size : ℕ) : Type 0 where
  pub code_back : code_in answer ≡ code
  pub length_back : length_in answer ≡ size
