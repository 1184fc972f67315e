-- The C header gives back what was packed.
use Rattle.std.specs.Prelude.{ℕ, ◌<◌}
use Rattle.std.proofs.Common.{arith}
use Rattle.refusals.specs.declared.Refusal.{Refusal}
use Rattle.refusals.specs.declared.Refusal.TheVariants as refusal
use Rattle.refusals.specs.Refusals.{code_of}
use Rattle.bivamolune_packing.specs.Packing.{packed, AnswerFits, Unpacks, packed_length, LengthUnpacks}

-- a code is a byte
pub why_small : (why : Refusal) → code_of why < 256
why_small refusal.WrongSize = omega arith
why_small refusal.NoImage = omega arith
why_small refusal.WrongLayout = omega arith
why_small refusal.WrongNumber = omega arith
why_small refusal.WrongDependencies = omega arith
why_small refusal.WrongContent = omega arith
why_small refusal.Conflict = omega arith
why_small refusal.Full = omega arith
why_small refusal.HeldLine = omega arith
why_small refusal.PastLimit = omega arith
why_small refusal.ManyDependencies = omega arith
why_small refusal.NotThere = omega arith
why_small refusal.WrongForm = omega arith
why_small refusal.ZeroNumber = omega arith
why_small refusal.PastLog = omega arith
why_small refusal.ManyFloors = omega arith

pub unpacked : (code undos executions : ℕ) → AnswerFits code undos executions → Unpacks (packed code undos executions) code undos executions
unpacked code undos executions f = record { code_back = omega arith; undos_back = omega arith; executions_back = omega arith }

pub length_unpacked : (code size : ℕ) → code < 256 → LengthUnpacks (packed_length code size) code size
length_unpacked code size h = record { code_back = omega arith; length_back = omega arith }
