-- errno of an error, and that the error of a failure is no interruption.
use Rattle.std.specs.Prelude.{◌≡◌, Bool, false, ⊤, Option, Result, Ok, Err, ℕ, eqb, ℤ, pos, negsuc}
use Rattle.std.specs.Option.{unwrap_or}
use Rattle.std.specs.IoError.{raw_os_error, error_kind}
use Rattle.std.specs.declared.io.Error.{Error}
use Rattle.std.specs.declared.io.ErrorKind.{ErrorKind}
use Rattle.std.specs.declared.io.ErrorKind.TheVariants.{Interrupted}
use Rattle.program_input.specs.declared.answer.Failure.{Failure}

-- errno of a read that a signal interrupted
abbrev pub is_interrupted : ℤ → Bool
is_interrupted (pos error) = eqb error 4
is_interrupted (negsuc error) = false

-- errno of an error that the system did not number
abbrev pub errno_of_kind : ErrorKind → ℤ
errno_of_kind Interrupted = pos 4
errno_of_kind _ = pos 0

-- errno of an error
abbrev pub errno_of : Error → ℤ
errno_of error = unwrap_or (raw_os_error error) (errno_of_kind (error_kind error))

-- the error that an input failed by is no interruption
abbrev pub InputTells : Result ℕ Failure → Type 0
InputTells (Ok n) = ⊤
InputTells (Err failure) = is_interrupted (errno_of failure.error) ≡ false

-- the same of one read
abbrev pub ReadingTells : Result (Option ℕ) Error → Type 0
ReadingTells (Ok n) = ⊤
ReadingTells (Err error) = is_interrupted (errno_of error) ≡ false
