-- What empty answers by its code.
use Rattle.std.specs.Prelude.{◌≡◌, List, ℕ}
use Rattle.std.proofs.Common.{sym, ap}
use Rattle.model.specs.Codes.{empty_conditions}
use Rattle.model.specs.Calls.{empty_answer, empty}
use Rattle.laws_codes.specs.Ladder.{Answers}

pub answered : (b : List ℕ) {n : ℕ} → Answers (empty_conditions b) n → empty_answer n b ≡ empty b
unfolding empty
answered b r = ap (λ (n : ℕ). empty_answer n b) (sym r.is)
