-- The code of a refusal, and what a check answers.
use Rattle.std.specs.Prelude.{◌≡◌, refl, Bool, true, false, ℕ, Result, Ok, Err}
use Rattle.std.proofs.Common.{arith}
use Rattle.refusals.specs.declared.Refusal.{Refusal}
use Rattle.refusals.specs.declared.Refusal.TheVariants as refusal

abbrev pub code_of : Refusal → ℕ
code_of refusal.WrongSize = 1
code_of refusal.NoImage = 2
code_of refusal.WrongLayout = 3
code_of refusal.WrongNumber = 4
code_of refusal.WrongDependencies = 5
code_of refusal.WrongContent = 6
code_of refusal.Conflict = 7
code_of refusal.Full = 8
code_of refusal.HeldLine = 9
code_of refusal.PastLimit = 10
code_of refusal.ManyDependencies = 11
code_of refusal.NotThere = 12
code_of refusal.WrongForm = 13
code_of refusal.ZeroNumber = 14
code_of refusal.PastLog = 15
code_of refusal.ManyFloors = 16

-- a check of one test: refused where it fails
abbrev pub checked : Refusal → Bool → Result (Unit {0}) Refusal
checked why true = Ok tt
checked why false = Err why

-- what its answer tells of its test
pub passed : (why : Refusal) (b : Bool) → Ok tt ≡ checked why b → b ≡ true
passed why true e = refl
passed why false e = grind arith

pub failed : (why e : Refusal) (b : Bool) → Err e ≡ checked why b → b ≡ false
failed why e true h = grind arith
failed why e false h = refl

pub refused_as : (why e : Refusal) (b : Bool) → Err e ≡ checked why b → e ≡ why
refused_as why e true h = grind arith
refused_as why e false h = grind arith

-- the code that a call answers: 0 where it does not refuse
abbrev pub answer_code : {A : Type 0} → Result A Refusal → ℕ
answer_code (Ok x) = 0
answer_code (Err why) = code_of why
