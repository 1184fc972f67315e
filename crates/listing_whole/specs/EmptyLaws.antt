-- What empty answers and leaves in a buffer of an image's size.
use Rattle.std.specs.Prelude.{◌≡◌, refl, false, List, ℕ, length, Result, Ok, Err, is_err}
use Rattle.std.proofs.Common.{sym, ◌∙◌, ap, arith, eq-eqb}
use Rattle.model.specs.Layout.{image_size}
use Rattle.model.specs.Image.{image_of}
use Rattle.model.specs.Calls.{Emptied, empty_state, empty}
use Rattle.refusals.specs.declared.Refusal.{Refusal}
use Rattle.refusals.specs.declared.Refusal.TheVariants as refusal
use Rattle.refusals.specs.Refusals.{code_of, answer_code}
use Rattle.empty.specs.EmptyAnswer.{emptied_by}
use Rattle.empty.specs.EmptyCases.{answered}
use Rattle.laws_codes.specs.Ladder.{none, passes}

-- no refusal has the code 0
coded : (why : Refusal) → code_of why ≡ 0 → ⊥
coded refusal.WrongSize e = omega arith
coded refusal.NoImage e = omega arith
coded refusal.WrongLayout e = omega arith
coded refusal.WrongNumber e = omega arith
coded refusal.WrongDependencies e = omega arith
coded refusal.WrongContent e = omega arith
coded refusal.Conflict e = omega arith
coded refusal.Full e = omega arith
coded refusal.HeldLine e = omega arith
coded refusal.PastLimit e = omega arith
coded refusal.ManyDependencies e = omega arith
coded refusal.NotThere e = omega arith
coded refusal.WrongForm e = omega arith
coded refusal.ZeroNumber e = omega arith
coded refusal.PastLog e = omega arith
coded refusal.ManyFloors e = omega arith

not_refusal : (r : Result (Unit {0}) Refusal) → answer_code r ≡ 0 → is_err r ≡ false
not_refusal (Ok x) e = refl
not_refusal (Err why) e = absurd (coded why e)

module _ (entry exit : List ℕ) (r : Result (Unit {0}) Refusal) (size : length entry ≡ image_size) (e : emptied_by r exit ≡ empty entry) where
  answer_is : emptied_by r exit ≡ record { code = 0; image = image_of empty_state }
  answer_is = e ∙ sym (answered entry (passes (sym (eq-eqb (length entry) image_size size)) none))

  pub emptied : exit ≡ image_of empty_state
  emptied = ap (λ (x : Emptied). x.image) answer_is

  pub not_refused : is_err r ≡ false
  not_refused = not_refusal r (ap (λ (x : Emptied). x.code) answer_is)
