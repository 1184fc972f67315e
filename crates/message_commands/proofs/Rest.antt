-- Whether the commands from a place on are right, taken one at a time.
use Rattle.std.specs.Prelude.{◌≡◌, refl, Bool, true, false, ◌&&◌, List, [], ℕ, ◌+◌, ◌*◌, ◌/◌, ◌≤◌, ◌<◌, length, take, drop}
use Rattle.std.proofs.Common.{sym, ◌∙◌, ap, arith}
use Rattle.model.specs.Lists.{every}
use Rattle.model.specs.Bytes.{parts}
use Rattle.model.specs.Layout.{command_size}
use Rattle.model.specs.Message.{command_right}
use Rattle.laws_order.specs.ScanLaws.{every_step, every_end}
use Rattle.laws_wire.specs.BytesLaws.{length_parts, parts_at}
use Rattle.message_commands.specs.CommandTests.{commands_right}

unfoldable pub right_from : List ℕ → ℕ → Bool
right_from b k = every command_right (drop k (parts (length b / command_size) command_size b))

module _ (b : List ℕ) where
  pub right_all : right_from b 0 ≡ commands_right b
  unfolding right_from
  right_all = refl

  module _ (k : ℕ) where
    one_more : k < length b / command_size → right_from b k ≡ command_right (take command_size (drop (command_size * k) b)) && right_from b (k + 1)
    unfolding right_from
    one_more h =
        every_step command_right (parts (length b / command_size) command_size b) k [] (omega (arith, length_parts (length b / command_size) command_size b))
        ∙ ap (λ (p : List ℕ). command_right p && right_from b (k + 1)) (parts_at (length b / command_size) command_size b k h)

    module _ (h : k < length b / command_size) where
      pub right_stop : false ≡ command_right (take command_size (drop (command_size * k) b)) → right_from b k ≡ false
      right_stop e = one_more h ∙ ap (λ (t : Bool). t && right_from b (k + 1)) (sym e)

      pub right_next : true ≡ command_right (take command_size (drop (command_size * k) b)) → right_from b k ≡ right_from b (k + 1)
      right_next e = one_more h ∙ ap (λ (t : Bool). t && right_from b (k + 1)) (sym e)

    pub right_end : length b / command_size ≤ k → right_from b k ≡ true
    unfolding right_from
    right_end h = every_end command_right (parts (length b / command_size) command_size b) k (omega (arith, length_parts (length b / command_size) command_size b))

pub ruleset rest = (right_all, right_stop, right_next, right_end)
