-- The answer as the definitions have it: document 01's number and length for each case, beside the buffer afterwards.
use Rattle.std.specs.Prelude.{◌≡◌, refl, List, [], ◌∷◌, map, ℕ, Result, Ok, Err}
use Rattle.model.specs.Calls.{Composed}
use Rattle.refusals.specs.declared.Refusal.{Refusal}
use Rattle.refusals.specs.declared.Refusal.TheVariants.{WrongSize, NoImage, WrongLayout, WrongContent, HeldLine, PastLimit, ManyDependencies}
use Rattle.refusals.specs.Refusals.{code_of}

-- a refusal: its number, and no length
abbrev pub refusal : ℕ → List ℕ → Composed
refusal code message = record { code = code; size = 0; message = message }

abbrev pub composed_by : Result ℕ Refusal → List ℕ → Composed
composed_by (Ok size) message = record { code = 0; size = size; message = message }
composed_by (Err why) message = refusal (code_of why) message

-- document 01's number for each
numbers : map (λ c. (composed_by c []).code) (Ok 0 ∷ Err WrongSize ∷ Err NoImage ∷ Err WrongLayout ∷ Err WrongContent ∷ Err HeldLine ∷ Err PastLimit ∷ Err ManyDependencies ∷ [])
    ≡ 0 ∷ 1 ∷ 2 ∷ 3 ∷ 6 ∷ 9 ∷ 10 ∷ 11 ∷ []
numbers = refl
