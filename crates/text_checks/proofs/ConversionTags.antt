-- No refusal has the code of what was written.
use Rattle.std.specs.Prelude.{◌≡◌, List, ℕ, Err}
use Rattle.std.proofs.Common.{arith}
use Rattle.refusals.specs.declared.Refusal.{Refusal}
use Rattle.refusals.specs.declared.Refusal.TheVariants as refusal
use Rattle.text_checks.specs.Answer.{converted_by}

pub not_written : (why : Refusal) (buffer : List ℕ) → (converted_by (Err why) buffer).code ≡ 0 → ⊥
not_written refusal.WrongSize buffer e = omega arith
not_written refusal.NoImage buffer e = omega arith
not_written refusal.WrongLayout buffer e = omega arith
not_written refusal.WrongNumber buffer e = omega arith
not_written refusal.WrongDependencies buffer e = omega arith
not_written refusal.WrongContent buffer e = omega arith
not_written refusal.Conflict buffer e = omega arith
not_written refusal.Full buffer e = omega arith
not_written refusal.HeldLine buffer e = omega arith
not_written refusal.PastLimit buffer e = omega arith
not_written refusal.ManyDependencies buffer e = omega arith
not_written refusal.NotThere buffer e = omega arith
not_written refusal.WrongForm buffer e = omega arith
not_written refusal.ZeroNumber buffer e = omega arith
not_written refusal.PastLog buffer e = omega arith
not_written refusal.ManyFloors buffer e = omega arith
