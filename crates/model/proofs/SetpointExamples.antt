-- Commands: what each operation makes of a tag's value, a command's change, and the values that it leaves.
use mathlib.Core.Path.{◌≡◌, refl}
use mathlib.Core.List.{List, [], ◌∷◌, map}
use Prim.Native.Nat.{ℕ}
use lib.IntN.{ℤ, pos, negsuc}
use Rattle.model.specs.Setpoints.{Change, stop, raise, operate, change_of, apply, run_command}
use Rattle.model.proofs.ExampleMessages.{command}

-- ---- operation, the tag's value and v; the value after
pub record Operation : Type 0 where
  pub operation : ℕ
  pub value : ℤ
  pub v : ℤ

abbrev on : ℕ → ℤ → ℤ → Operation
on operation value v = record { operation = operation; value = value; v = v }

operations : List (Operation × ℤ)
operations =
    -- "1 sets the tag to v"
    (on 1 (pos 7) (pos 1500), pos 1500)
    -- "2 adds v"
    ∷ (on 2 (pos 1500) (negsuc 19), pos 1480)
    -- "The sum is stopped at -1000000 and at 1000000": up to it, and past it
    ∷ (on 2 (pos 999990) (pos 10), pos 1000000)
    ∷ (on 2 (pos 999990) (pos 20), pos 1000000)
    ∷ (on 2 (negsuc 999989) (negsuc 9), negsuc 999999)
    ∷ (on 2 (negsuc 999989) (negsuc 19), negsuc 999999)
    -- "3 raises the tag to v if it is lower"
    ∷ (on 3 (pos 5) (pos 3), pos 5)
    ∷ (on 3 (pos 5) (pos 5), pos 5)
    ∷ (on 3 (pos 5) (pos 9), pos 9)
    ∷ (on 3 (pos 5) (negsuc 0), pos 5)
    ∷ (on 3 (negsuc 5) (negsuc 0), negsuc 0)
    ∷ []

operations_hold : map (λ e. operate e.0.operation e.0.value e.0.v) operations ≡ map (λ e. e.1) operations
unfolding operations operate raise stop
operations_hold = refl

-- ---- a command on tags of the values 5, 999990 and 7: its change, and the values after it
abbrev values : List ℤ
values = pos 5 ∷ pos 999990 ∷ pos 7 ∷ []

abbrev changed : ℕ → ℤ → ℤ → Change
changed tag before after = record { tag = tag; before = before; after = after }

changes : List (List ℕ × (Change × List ℤ))
changes =
    -- 20 more on 999990 at tag 1, of which 10 are left by the stop
    (command 2 1 (pos 20), (changed 1 (pos 999990) (pos 1000000), pos 5 ∷ pos 1000000 ∷ pos 7 ∷ []))
    ∷ (command 1 0 (negsuc 3), (changed 0 (pos 5) (negsuc 3), negsuc 3 ∷ pos 999990 ∷ pos 7 ∷ []))
    ∷ (command 3 2 (pos 6), (changed 2 (pos 7) (pos 7), values))
    ∷ []

changes_hold : map (λ e. (change_of e.0 values, run_command e.0 values)) changes ≡ map (λ e. e.1) changes
unfolding changes change_of run_command apply operate raise stop
changes_hold = refl
