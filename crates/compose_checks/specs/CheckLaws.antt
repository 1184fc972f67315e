-- What decides the sizes, flag and priority; the two halves of code 6.
use Rattle.std.specs.Prelude.{◌≡◌, Bool, true, false, ◌&&◌, ◌||◌, List, ℕ, ◌≤◌, ◌<◌, T, leb}
use Rattle.std.proofs.Math.Path.{refl, ap₂}
use Rattle.std.proofs.Common.{sym, ◌∙◌, eqb→eq, nltb→le, le-leb, eq-eqb, ne_eqb}
use Rattle.std.proofs.Math.Dec.{eqb}
use Rattle.std.proofs.lemmas.Bool.{lt-leb}
use Rattle.model.specs.Layout.{image_size, message_room, line_size, field_limit}
use Rattle.model.specs.Codes.{compose_content}
use Rattle.laws_order.specs.TestLaws.{and_l, and_r}
use Rattle.message_commands.specs.CommandTests.{commands_right}
use Rattle.compose_checks.specs.Checks.{sizes_right, given_right}

-- ---- the sizes, as facts
pub record Sizes (image room line : ℕ) : Type 0 where
  pub image_size_lem : image ≡ image_size
  pub room_size : message_room ≤ room
  pub line_size_lem : line ≡ line_size

pub sizes_out : (image room line : ℕ) → T (sizes_right image room line) → Sizes image room line
sizes_out image room line t = record {
  image_size_lem = eqb→eq image image_size (search (and_l, and_r) depth 4);
  room_size = nltb→le room message_room (search (and_l, and_r) depth 4);
  line_size_lem = eqb→eq line line_size (search (and_l, and_r) depth 4);
}

-- ---- flag and priority
module _ (flag priority : ℕ) where
  by_tests : {a b c d : Bool} → leb flag 1 ≡ a → leb priority field_limit ≡ b → eqb flag 1 ≡ c → eqb priority 0 ≡ d → given_right flag priority ≡ a && b && (c || d)
  unfolding given_right
  by_tests {a} {b} {c} {d} p q r s =
      ap₂ (λ (x y : Bool). x && y && (eqb flag 1 || eqb priority 0)) p q ∙ ap₂ (λ (x y : Bool). a && b && (x || y)) r s

  pub flag_wrong : 1 < flag → false ≡ given_right flag priority
  flag_wrong h = sym (by_tests (lt-leb flag 1 h) refl refl refl)

  pub priority_wrong : flag ≤ 1 → field_limit < priority → false ≡ given_right flag priority
  priority_wrong f h = sym (by_tests (le-leb flag 1 f) (lt-leb priority field_limit h) refl refl)

  module _ (f : flag ≤ 1) (p : priority ≤ field_limit) where
    pub flag_given : flag ≡ 1 → true ≡ given_right flag priority
    flag_given e = sym (by_tests (le-leb flag 1 f) (le-leb priority field_limit p) (eq-eqb flag 1 e) refl)

    pub priority_alone : (flag ≡ 1 → ⊥) → (priority ≡ 0 → ⊥) → false ≡ given_right flag priority
    priority_alone e z = sym (by_tests (le-leb flag 1 f) (le-leb priority field_limit p) (ne_eqb flag 1 e) (ne_eqb priority 0 z))

    pub none_given : (flag ≡ 1 → ⊥) → priority ≡ 0 → true ≡ given_right flag priority
    none_given e z = sym (by_tests (le-leb flag 1 f) (le-leb priority field_limit p) (ne_eqb flag 1 e) (eq-eqb priority 0 z))

  -- ---- with the commands
  module _ (commands : List ℕ) where
    pub content_parts : compose_content commands flag priority ≡ given_right flag priority && commands_right commands
    unfolding given_right
    content_parts = refl

    -- without the flag there is no priority
    pub content_given : T (compose_content commands flag priority) → T (eqb flag 1 || eqb priority 0)
    content_given t = search (and_l, and_r) depth 6
