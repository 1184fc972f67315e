-- Two logs, the old one and the new one: the steps between them, and how many they undo and execute.
use mathlib.Core.Path.{◌≡◌, refl}
use mathlib.Core.List.{List, [], ◌∷◌, map}
use Prim.Native.Nat.{ℕ}
use Rattle.model.specs.Steps.{Step, undo, execute, steps_of, undos_of, executions_of}
use Rattle.model.proofs.ExampleMessages.{A, B, C}

pub record Logs : Type 0 where
  pub old : List ℕ
  pub new : List ℕ

abbrev to : List ℕ → List ℕ → Logs
to old new = record { old = old; new = new }

pub record Taken : Type 0 where
  pub undos : ℕ
  pub executions : ℕ
  pub steps : List Step

abbrev between : List ℕ → List ℕ → Taken
between old new = record { undos = undos_of old new; executions = executions_of old new; steps = steps_of old new }

abbrev taken : ℕ → ℕ → List Step → Taken
taken undos executions steps = record { undos = undos; executions = executions; steps = steps }

logs : List (Logs × Taken)
logs =
    (to [] [], taken 0 0 [])
    ∷ (to [] (A 1 ∷ []), taken 0 1 (execute (A 1) ∷ []))
    -- A1 again: no step.
    ∷ (to (A 1 ∷ []) (A 1 ∷ []), taken 0 0 [])
    -- A2 then A1: execute A1, A2.
    ∷ (to [] (A 1 ∷ A 2 ∷ []), taken 0 2 (execute (A 1) ∷ execute (A 2) ∷ []))
    -- B1 then A1: undo B1, execute A1, B1.
    ∷ (to (B 1 ∷ []) (A 1 ∷ B 1 ∷ []), taken 1 2 (undo (B 1) ∷ execute (A 1) ∷ execute (B 1) ∷ []))
    -- the longest common start is kept
    ∷ (to (A 1 ∷ B 1 ∷ []) (A 1 ∷ B 1 ∷ C 1 ∷ []), taken 0 1 (execute (C 1) ∷ []))
    ∷ (to (A 1 ∷ B 1 ∷ []) (A 1 ∷ C 1 ∷ B 1 ∷ []), taken 1 2 (undo (B 1) ∷ execute (C 1) ∷ execute (B 1) ∷ []))
    -- the old rest is undone from its end
    ∷ (
      to (A 1 ∷ B 1 ∷ C 1 ∷ []) (A 1 ∷ A 2 ∷ B 1 ∷ C 1 ∷ []),
      taken 2 3 (undo (C 1) ∷ undo (B 1) ∷ execute (A 2) ∷ execute (B 1) ∷ execute (C 1) ∷ []),
    )
    ∷ []

logs_hold : map (λ e. between e.0.old e.0.new) logs ≡ map (λ e. e.1) logs
unfolding logs
logs_hold = refl
