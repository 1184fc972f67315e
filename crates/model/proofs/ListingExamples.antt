-- How a log grows step by step. A2 and A1 are received. The sequences placed, the last one first; what is ready then, and what follows.
use mathlib.Core.Path.{◌≡◌, refl}
use mathlib.Core.List.{List, [], ◌∷◌, map}
use Prim.Native.Nat.{ℕ}
use Rattle.model.specs.Lists.{keep}
use Rattle.model.specs.Order.{State, sequences_of, needs, ready, log_from}
use Rattle.model.proofs.ExampleMessages.{A, a1, a2, holding}

abbrev both : State
both = holding (a2 ∷ a1 ∷ [])

steps : List (List ℕ × (List ℕ × List ℕ))
steps = ([], (A 1 ∷ [], A 1 ∷ A 2 ∷ [])) ∷ (A 1 ∷ [], (A 2 ∷ [], A 2 ∷ [])) ∷ (A 2 ∷ A 1 ∷ [], ([], [])) ∷ []

steps_hold : map (λ e. (sequences_of (keep (ready both e.0) both.deltas), sequences_of (log_from both 2 e.0))) steps ≡ map (λ e. e.1) steps
unfolding steps needs
steps_hold = refl
