-- The numbers of a message's header, as bytes.
use Rattle.std.specs.Prelude.{List, [], ◌∷◌, ◌++◌, ℕ, ◌≤◌}
use Rattle.model.specs.Bytes.{bytes}
use Rattle.model.specs.Layout.{header_size, most_dependencies, most_commands}
use Rattle.model.specs.Message.{commands_start, total_length}

-- no more dependencies and commands than a message may have
pub record FewParts (dependencies commands : ℕ) : Type 0 where
  pub dependencies_fit : dependencies ≤ most_dependencies
  pub commands_fit : commands ≤ most_commands

abbrev pub counts_bytes : ℕ → ℕ → ℕ → List ℕ
counts_bytes flag D C = 1 ∷ flag ∷ D ∷ C ∷ []

abbrev pub offsets_bytes : ℕ → ℕ → List ℕ
offsets_bytes D C = bytes 2 (total_length D C) ++ bytes 2 header_size ++ bytes 2 (commands_start D) ++ bytes 2 0

abbrev pub order_bytes : ℕ → ℕ → ℕ → List ℕ
order_bytes group block priority = bytes 4 group ++ bytes 4 block ++ bytes 4 priority ++ bytes 4 0
