-- What an answer of read says, and that what is read fits the buffer.
use Rattle.std.specs.Prelude.{Bool, true, false, cond, Option, Some, None, Result, Ok, Err, ⊤, ℕ, zero, suc, ◌+◌, ◌≤◌, ◌<◌}
use Rattle.std.specs.declared.io.Error.{Error}
use Rattle.program_input.specs.Failing.{is_interrupted, errno_of}
use Rattle.program_input.specs.declared.answer.Failure.{Failure}

-- how many bytes an answer says were brought, none where a signal interrupted it; `None` at the end
abbrev pub reading_after : Result ℕ Error → Result (Option ℕ) Error
reading_after (Ok zero) = Ok None
reading_after (Ok (suc k)) = Ok (Some (suc k))
reading_after (Err error) = cond (is_interrupted (errno_of error)) (Ok (Some 0)) (Err error)

abbrev pub goes_on : Result (Option ℕ) Error → Bool
goes_on (Ok (Some n)) = true
goes_on (Ok None) = false
goes_on (Err error) = false

-- a piece behind `at` bytes, in a buffer of `size`
abbrev pub ReadingFits : ℕ → ℕ → Result (Option ℕ) Error → Type 0
ReadingFits at size (Ok (Some n)) = at + n ≤ size
ReadingFits at size (Ok None) = ⊤
ReadingFits at size (Err error) = ⊤

-- all pieces; a read fails only where there is room left
abbrev pub InputFits : ℕ → Result ℕ Failure → Type 0
InputFits size (Ok n) = n ≤ size
InputFits size (Err failure) = failure.read < size
