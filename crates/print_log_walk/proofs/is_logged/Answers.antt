-- Log message finds a message exactly where its code is 0.
use Rattle.std.specs.Prelude.{◌≡◌, refl, false, ℕ, eqb, Result, Ok, Err, is_ok}
use Rattle.std.proofs.Common.{◌∙◌, ap}
use Rattle.refusals.specs.declared.Refusal.{Refusal}
use Rattle.refusals.specs.declared.Refusal.TheVariants as refusal
use Rattle.refusals.specs.Refusals.{code_of, answer_code}
use Rattle.print_log_walk.proofs.is_logged.Goals as goal

-- no refusal has the code 0
refuses : (why : Refusal) → false ≡ eqb (code_of why) 0
refuses refusal.WrongSize = refl
refuses refusal.NoImage = refl
refuses refusal.WrongLayout = refl
refuses refusal.WrongNumber = refl
refuses refusal.WrongDependencies = refl
refuses refusal.WrongContent = refl
refuses refusal.Conflict = refl
refuses refusal.Full = refl
refuses refusal.HeldLine = refl
refuses refusal.PastLimit = refl
refuses refusal.ManyDependencies = refl
refuses refusal.NotThere = refl
refuses refusal.WrongForm = refl
refuses refusal.ZeroNumber = refl
refuses refusal.PastLog = refl
refuses refusal.ManyFloors = refl

found : (r : Result (Unit {0}) Refusal) → is_ok r ≡ eqb (answer_code r) 0
found (Ok x) = refl
found (Err why) = refuses why

pub returns : goal.returns
returns c = c.is_ok.ensures.value ∙ found c.log_message_code.result ∙ ap (λ (n : ℕ). eqb n 0) c.log_message_code.ensures
