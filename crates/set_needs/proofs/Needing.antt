-- What a message needs, by its predecessor; and where its dependencies lie.
use Rattle.std.specs.Prelude.{◌≡◌, ℕ, ◌+◌, ◌≤◌, ◌++◌, Option, length, get_or, T}
use Rattle.std.proofs.Common.{ap}
use Rattle.model.specs.Message.{Message, sequence_of, predecessor_of, dependency_count, dependencies_of, commands_start, needs_of, passes}
use Rattle.message_sequence.specs.declared.Sequence.{Sequence}
use Rattle.message_sequence.specs.Sequence.{predecessor_list}
use Rattle.set_needs.specs.WantedLaws.{needs_by, length_needs, dependencies_lie}

pub inside : (m : Message) → T (passes m) → commands_start (dependency_count m) ≤ length m
inside m pass = dependencies_lie m pass

module _ (m : Message) (before : Option Sequence) (is : predecessor_list before ≡ predecessor_of (sequence_of m)) where
  pub count_of : length (needs_of m) ≡ length (predecessor_list before) + dependency_count m
  count_of = length_needs m is

  pub each_of : (k : ℕ) → get_or (needs_of m) k 0 ≡ get_or (predecessor_list before ++ dependencies_of m) k 0
  each_of k = ap (λ l. get_or l k 0) (needs_by m is)

pub ruleset needing = (inside, count_of, each_of)
