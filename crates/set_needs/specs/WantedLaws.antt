-- What a message needs, by what its predecessor is; and how much it can be.
use Rattle.std.specs.Prelude.{◌≡◌, Bool, true, false, cond, List, [], ◌∷◌, ◌++◌, ℕ, ◌+◌, ◌-◌, ◌≤◌, length, T, ltb}
use Rattle.std.proofs.Common.{◌∙◌, ap, sym, arith, length-append}
use Rattle.model.specs.Message.{Message, number_of, sequence_of, predecessor_of, dependency_count, dependencies_of, commands_start, needs_of, passes}
use Rattle.laws_wire.specs.MessageLaws.{passes_sized}
use Rattle.message_dependencies.specs.DependencyLaws.{length_dependencies}
use Rattle.set_needs.specs.Rows.{row_size}

pub needs_by : (m : Message) {p : List ℕ} → p ≡ predecessor_of (sequence_of m) → needs_of m ≡ p ++ dependencies_of m
needs_by m e = ap (λ (l : List ℕ). l ++ dependencies_of m) (sym e)

pub length_needs : (m : Message) {p : List ℕ} → p ≡ predecessor_of (sequence_of m) → length (needs_of m) ≡ length p + dependency_count m
length_needs m {p} e = ap length (needs_by m e) ∙ length-append p (dependencies_of m) ∙ ap (λ (n : ℕ). length p + n) (length_dependencies m)

predecessor_length : (s : ℕ) → length (predecessor_of s) ≤ 1
predecessor_length s = go (ltb 1 (number_of s))
  where
    go : (c : Bool) → length (cond c ((s - 1) ∷ []) []) ≤ 1
    go true = omega arith
    go false = omega arith

module _ (m : Message) (pass : T (passes m)) where
  pub needs_few : length (needs_of m) ≤ row_size
  needs_few = omega (
    arith,
    length-append (predecessor_of (sequence_of m)) (dependencies_of m),
    length_dependencies m,
    predecessor_length (sequence_of m),
    (passes_sized m pass).dependencies,
  )

  -- its dependencies lie inside it
  pub dependencies_lie : commands_start (dependency_count m) ≤ length m
  dependencies_lie = omega (arith, (passes_sized m pass).total)
