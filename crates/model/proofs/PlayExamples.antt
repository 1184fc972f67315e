-- Steps played on a log: what can be played and where it leads, and what can not be.
use mathlib.Core.Path.{◌≡◌, refl, sym, ◌∙◌, ap}
use mathlib.Core.List.{List, [], ◌∷◌, ◌++◌}
use Prim.Native.Nat.{ℕ}
use native.Mathlib.Omega.{arith}
use lib.ListN.{get_or}
use Rattle.model.specs.Steps.{undo, execute, Plays}
use Rattle.model.proofs.ExampleMessages.{A, B}

-- ---- what can be played
b1_then_a1 : Plays (B 1 ∷ []) (undo (B 1) ∷ execute (A 1) ∷ execute (B 1) ∷ []) (A 1 ∷ B 1 ∷ [])
b1_then_a1 = ([], refl, refl)

-- any number of steps, in any order: an execution may be undone again
longer : Plays (B 1 ∷ []) (execute (A 1) ∷ undo (A 1) ∷ undo (B 1) ∷ execute (A 1) ∷ execute (B 1) ∷ []) (A 1 ∷ B 1 ∷ [])
longer = (B 1 ∷ [], refl, ([], refl, refl))

-- ---- "An undo must name its last delta and takes it off": it may neither take the last one off under another name,
-- nor take off one that is not the last
a1_is_not_b1 : A 1 ≡ B 1 → ⊥
a1_is_not_b1 e = omega arith

under_another_name : Plays (A 1 ∷ B 1 ∷ []) (undo (A 1) ∷ []) (A 1 ∷ []) → ⊥
under_another_name (rest, named, left) =
    let log : A 1 ∷ B 1 ∷ [] ≡ A 1 ∷ A 1 ∷ [] = named ∙ ap (λ (l : List ℕ). l ++ A 1 ∷ []) left in
    a1_is_not_b1 (sym (ap (λ (l : List ℕ). get_or l 1 0) log))

not_the_last : Plays (A 1 ∷ B 1 ∷ []) (undo (A 1) ∷ []) (B 1 ∷ []) → ⊥
not_the_last (rest, named, left) =
    let log : A 1 ∷ B 1 ∷ [] ≡ B 1 ∷ A 1 ∷ [] = named ∙ ap (λ (l : List ℕ). l ++ A 1 ∷ []) left in
    a1_is_not_b1 (ap (λ (l : List ℕ). get_or l 0 0) log)

-- "an execution adds the named delta at its end"
in-front : Plays (B 1 ∷ []) (execute (A 1) ∷ []) (A 1 ∷ B 1 ∷ []) → ⊥
in-front log = a1_is_not_b1 (sym (ap (λ (l : List ℕ). get_or l 0 0) log))
