-- What the tests of code 6 say, as facts.
use Rattle.std.specs.Prelude.{◌≡◌, refl, Bool, true, false, not, ◌&&◌, ℕ, ◌/◌, ◌≤◌, eqb, leb, length, drop}
use Rattle.std.proofs.Common.{sym, ◌∙◌, ap, ap₂, arith, T_not, length-drop, eq-eqb, ne_eqb}
use Rattle.std.proofs.Math.Path.{subst}
use Rattle.std.proofs.Math.Logic.{⊎_elim}
use Rattle.std.proofs.Math.Dec.{T, eqb→eq, leb→le, le→leb}
use Rattle.model.specs.Lists.{every}
use Rattle.model.specs.Bytes.{field, parts}
use Rattle.model.specs.Layout.{priority_flag_at, command_size, field_limit}
use Rattle.model.specs.Message.{Message, group_of, block_of, priority_of, has_priority, block_right, dependency_count, command_count, commands_start, total_length, commands_of, command_right, content_right}
use Rattle.laws_order.specs.TestLaws.{and_l, and_r, and_i, is_true, is_false, false_of, decide, eq→eqb}
use Rattle.message_commands.specs.CommandTests.{commands_right}
use Rattle.message_checks.specs.Content.{priority_right}

-- ---- block and priority, by the flag of byte 1
pub record BlockAndPriority (m : Message) : Type 0 where
  pub block : block_of m ≤ field_limit
  pub priority : priority_of m ≤ field_limit
  pub given : field m priority_flag_at 1 ≡ 1 → 1 ≤ block_of m
  pub no_block : (field m priority_flag_at 1 ≡ 1 → ⊥) → block_of m ≡ 0
  pub no_priority : (field m priority_flag_at 1 ≡ 1 → ⊥) → priority_of m ≡ 0

module _ (m : Message) where
  abbrev by_flag : Bool → Bool
  by_flag f = block_right f (block_of m) (priority_of m)

  priority_out : T (priority_right m) → BlockAndPriority m
  unfolding priority_right
  priority_out t =
      let rest : T (by_flag (has_priority m)) = search (and_l, and_r) depth 6 in
      let without : (field m priority_flag_at 1 ≡ 1 → ⊥) → T (by_flag false) = λ f. subst (λ (b : Bool). T (by_flag b)) (ne_eqb (field m priority_flag_at 1) 1 f) rest in
      record {
        block = leb→le (block_of m) field_limit (search (and_l, and_r) depth 6);
        priority = leb→le (priority_of m) field_limit (search (and_l, and_r) depth 6);
        given = λ e. leb→le 1 (block_of m) (subst (λ (b : Bool). T (by_flag b)) (eq-eqb (field m priority_flag_at 1) 1 e) rest);
        no_block = λ f. eqb→eq (block_of m) 0 (and_l (eqb (block_of m) 0) (eqb (priority_of m) 0) (without f));
        no_priority = λ f. eqb→eq (priority_of m) 0 (and_r (eqb (block_of m) 0) (eqb (priority_of m) 0) (without f));
      }

  priority_in : BlockAndPriority m → T (priority_right m)
  unfolding priority_right
  priority_in f =
      let block : T (leb (block_of m) field_limit) = le→leb _ _ f.block in
      let priority : T (leb (priority_of m) field_limit) = le→leb _ _ f.priority in
      let rest : T (by_flag (has_priority m)) = ⊎_elim with without (decide (has_priority m)) in
      search and_i depth 6
    where
      with : T (has_priority m) → T (by_flag (has_priority m))
      with t = subst (λ (b : Bool). T (by_flag b)) (sym (is_true (has_priority m) t)) (le→leb _ _ (f.given (eqb→eq (field m priority_flag_at 1) 1 t)))

      without : T (not (has_priority m)) → T (by_flag (has_priority m))
      without t =
          let absent : field m priority_flag_at 1 ≡ 1 → ⊥ = λ e. T_not (has_priority m) t (eq→eqb e) in
          subst (λ (b : Bool). T (by_flag b)) (sym (is_false (has_priority m) t))
          (and_i (eqb (block_of m) 0) (eqb (priority_of m) 0) (eq→eqb (f.no_block absent)) (eq→eqb (f.no_priority absent)))

-- the test as the answer of its check
pub priority_wrong : {m : Message} → (BlockAndPriority m → ⊥) → false ≡ priority_right m
priority_wrong {m} f = sym (false_of (priority_right m) (λ t. f (priority_out m t)))

pub priority_right_lem : {m : Message} → BlockAndPriority m → true ≡ priority_right m
priority_right_lem {m} f = sym (is_true (priority_right m) (priority_in m f))

-- ---- the whole test
content_parts : (m : Message) → content_right m ≡ leb (group_of m) field_limit && (priority_right m && every command_right (commands_of m))
unfolding content_right priority_right
content_parts m = go (leb (group_of m) field_limit) (leb (block_of m) field_limit) (leb (priority_of m) field_limit) (block_right (has_priority m) (block_of m) (priority_of m)) (every command_right (commands_of m))
  where
    go : (a b c d e : Bool) → a && b && c && d && e ≡ a && (b && c && d && e)
    go true b c d e = refl
    go false b c d e = refl

-- from the answers of its parts
pub content_is : (m : Message) {g p e : Bool} → leb (group_of m) field_limit ≡ g → priority_right m ≡ p → every command_right (commands_of m) ≡ e
    → content_right m ≡ g && (p && e)
content_is m group priority commands = content_parts m ∙ ap₂ ◌&&◌ group (ap₂ ◌&&◌ priority commands)

-- the commands are those of all bytes past the dependencies
pub commands_past : (m : Message) → length m ≡ total_length (dependency_count m) (command_count m)
    → every command_right (commands_of m) ≡ commands_right (drop (commands_start (dependency_count m)) m)
commands_past m h = ap (λ (n : ℕ). every command_right (parts n command_size rest)) count
  where
    rest : Message
    rest = drop (commands_start (dependency_count m)) m

    count : command_count m ≡ length rest / command_size
    count = let l = length-drop (commands_start (dependency_count m)) m in omega arith
