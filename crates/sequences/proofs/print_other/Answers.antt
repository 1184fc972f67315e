-- What is printed lies within the output.
use Rattle.std.proofs.Common.{◌≡◌, ◌≤◌, List, ℕ, length, Result, Ok, subst, sym, length-take-le}
use Rattle.refusals.specs.declared.Refusal.{Refusal}
use Rattle.text_checks.specs.Answer.{converted_by}
use Rattle.sequences_forms.specs.FormCases.{put_inside}
use Rattle.sequences.proofs.print_other.Goals as goal

-- what was written, as the answer and the output tell it
fits : (n : ℕ) (r : Result ℕ Refusal) (out : List ℕ) → r ≡ Ok n → (converted_by r out).size ≤ length out → n ≤ length out
fits n r out is inside = subst (λ (x : Result ℕ Refusal). (converted_by x out).size ≤ length out) is inside

pub slice_bounds-out-end : goal.slice_bounds-out-end
slice_bounds-out-end g c = fits _ _ _ c.in-Ok.is (put_inside _ _ _ _ c.convert.ensures)

pub slice_bounds-print-end : goal.slice_bounds-print-end
slice_bounds-print-end g c = sym (length-take-le _ _ (fits _ _ _ c.in-Ok.is (put_inside _ _ _ _ c.convert.ensures)))
