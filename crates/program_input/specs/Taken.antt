-- What a reader gave, where its bytes are known.
use Rattle.std.specs.Prelude.{Result, Ok, Err, ℕ, ◌+◌, ◌<◌, List, Option, Some, None, ⊤, slice_range}
use Rattle.std.specs.Io.KnownBytes.{Consumes, Keeps, IsAtEnd}
use Rattle.std.specs.declared.io.Error.{Error}
use Rattle.program_input.specs.declared.answer.Failure.{Failure}

-- how many bytes are there
abbrev pub size_of : Result ℕ Failure → ℕ
size_of (Ok n) = n
size_of (Err failure) = failure.read

-- an input that leaves room in a buffer of `size` is all that the reader had, unless a read failed
abbrev pub EndsWithin : ℕ → Option (List ℕ) → Result ℕ Failure → Type 0
EndsWithin size left (Ok n) = n < size → IsAtEnd left
EndsWithin size left (Err failure) = ⊤

-- one read puts behind `at` bytes, in a buffer of `size`, what the reader gives; where reading is over it puts nothing
abbrev pub TakesPiece : Option (List ℕ) → Option (List ℕ) → ℕ → ℕ → Result (Option ℕ) Error → List ℕ → Type 0
TakesPiece old new at size (Ok (Some n)) buf = Consumes old new (slice_range buf at (at + n))
TakesPiece old new at size (Ok None) buf = Keeps old new × (at < size → IsAtEnd new)
TakesPiece old new at size (Err error) buf = Keeps old new
