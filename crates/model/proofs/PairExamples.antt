-- Records played on setpoints beside the executions that stand: what can be played, and what can not be.
use mathlib.Core.Path.{◌≡◌, refl, ap}
use mathlib.Core.List.{List, [], ◌∷◌}
use Prim.Native.Nat.{ℕ}
use native.Mathlib.Omega.{arith}
use lib.ListN.{replicate, set}
use lib.IntN.{ℤ, pos, negsuc}
use Rattle.model.specs.Bytes.{word}
use Rattle.model.specs.Layout.{tag_count}
use Rattle.model.specs.Steps.{undo, execute, Pair, pair_of, Standing, PlaysPairs}
use Rattle.model.proofs.ExampleMessages.{A, B}
use Rattle.model.proofs.RecordExamples.{setting}

-- all setpoints zero but tag 3
abbrev pub tag3 : ℤ → List ℤ
tag3 value = set (replicate tag_count (pos 0)) 3 value

-- an execution of a pair of tag 3, which found this value
abbrev pub standing : ℕ → ℤ → Standing
standing s value = record { sequence = s; found = pair_of 3 value ∷ [] }

-- B1 stands, is undone, and is executed after A1.
pub b1_then_a1 : PlaysPairs (standing (B 1) (pos 0) ∷ []) (tag3 (negsuc 19))
    (setting (undo (B 1)) (pos 0) ∷ setting (execute (A 1)) (pos 1500) ∷ setting (execute (B 1)) (pos 1480) ∷ [])
    (standing (B 1) (pos 1500) ∷ standing (A 1) (pos 0) ∷ []) (tag3 (pos 1480))
b1_then_a1 = ([], refl, (standing (A 1) (pos 0) ∷ [], refl, (standing (B 1) (pos 1500) ∷ standing (A 1) (pos 0) ∷ [], refl, (refl, refl))))

-- ---- an undo lists what its execution found: B1 found 999990 and added 20, which was stopped at 1000000; a subtraction gives 999980
abbrev found_before : List Pair → ℕ
found_before [] = 0
found_before (p ∷ l) = word p.value

abbrev latest_found : List Standing → ℕ
latest_found [] = 0
latest_found (s ∷ l) = found_before s.found

subtracted : (end : List Standing) (final : List ℤ)
    → PlaysPairs (standing (B 1) (pos 999990) ∷ []) (tag3 (pos 1000000)) (setting (undo (B 1)) (pos 999980) ∷ []) end final → ⊥
subtracted end final (next, stands, rest) = let found : word (pos 999990) ≡ 999980 = ap latest_found stands in omega arith

-- and it names the latest execution
abbrev latest_name : List Standing → ℕ
latest_name [] = 0
latest_name (s ∷ l) = s.sequence

not_the_latest : (end : List Standing) (final : List ℤ)
    → PlaysPairs (standing (B 1) (pos 0) ∷ standing (A 1) (pos 0) ∷ []) (tag3 (pos 5)) (setting (undo (A 1)) (pos 0) ∷ []) end final → ⊥
not_the_latest end final (next, stands, rest) = let named : B 1 ≡ A 1 = ap latest_name stands in omega arith
