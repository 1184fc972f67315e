-- The test of a command by its fields, each of which can fail it.
use Rattle.std.specs.Prelude.{◌≡◌, true, false, List, ℕ, ◌+◌, ◌≤◌, ◌<◌, ◌≢◌, take, drop, T}
use Rattle.std.proofs.Common.{sym, subst, arith}
use Rattle.model.specs.Bytes.{field}
use Rattle.model.specs.Layout.{command_size, tag_at, command_zeros_at, value_at, tag_count}
use Rattle.model.specs.Message.{command_right}
use Rattle.message_commands.specs.CommandTests.{value_right}
use Rattle.message_commands.specs.CommandFacts.{command_wrong, command_right_lem}
use Rattle.laws_order.specs.TestLaws.{true_T}

module _ (b : List ℕ) (at : ℕ) where
  pub low_operation : field b at 1 < 1 → command_right (take command_size (drop at b)) ≡ false
  low_operation h = sym (command_wrong b at (λ f. omega (arith, f.least)))

  pub high_operation : 3 < field b at 1 → command_right (take command_size (drop at b)) ≡ false
  high_operation h = sym (command_wrong b at (λ f. omega (arith, f.most)))

  pub no_tag : tag_count ≤ field b (at + tag_at) 1 → command_right (take command_size (drop at b)) ≡ false
  no_tag h = sym (command_wrong b at (λ f. omega (arith, f.tag)))

  pub not_zeros : field b (at + command_zeros_at) 2 ≢ 0 → command_right (take command_size (drop at b)) ≡ false
  not_zeros h = sym (command_wrong b at (λ f. h f.zeros))

  pub out_of_range : false ≡ value_right (field b (at + value_at) 4) → command_right (take command_size (drop at b)) ≡ false
  out_of_range h = sym (command_wrong b at (λ f. subst T (sym h) f.value))

  pub all_right : 1 ≤ field b at 1 → field b at 1 ≤ 3 → field b (at + tag_at) 1 < tag_count → field b (at + command_zeros_at) 2 ≡ 0
      → true ≡ value_right (field b (at + value_at) 4) → command_right (take command_size (drop at b)) ≡ true
  all_right least most tag zeros value =
      sym (command_right_lem b at (record { least = least; most = most; tag = tag; zeros = zeros; value = true_T _ (sym value) }))

pub ruleset fields = (low_operation, high_operation, no_tag, not_zeros, out_of_range, all_right)
