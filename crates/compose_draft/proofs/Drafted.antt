-- What the tests of a draft tell, in the order in which they are taken.
use Rattle.std.specs.Prelude.{◌≡◌, refl, true, Option, ℕ, ◌+◌, ◌*◌, ◌≤◌, ◌<◌, eqb}
use Rattle.std.proofs.Common.{◌∙◌, ap}
use Rattle.model.specs.Layout.{numbers_of_line, field_limit}
use Rattle.model.specs.Message.{line_of, number_of}
use Rattle.model.specs.Order.{State}
use Rattle.model.specs.Compose.{new_number, new_sequence, new_group, new_block}
use Rattle.model.specs.Codes.{past_limit}
use Rattle.message_header.specs.declared.header.Priority.{Priority}
use Rattle.message_sequence.specs.declared.Sequence.{Sequence}
use Rattle.message_sequence.specs.Sequence.{sequence_number}
use Rattle.compose_draft.specs.Drafting.{priority_by, IsDraft}
use Rattle.compose_draft.specs.DraftingLaws.{numbered, past_number, past_block, past_group, past_none}

module _ (S : State) (line : Sequence) (flag : ℕ) {n : ℕ} (zero : number_of (sequence_number line) ≡ 0) (is_number : n ≡ new_number S (line_of (sequence_number line))) where
  abbrev on : ℕ
  on = line_of (sequence_number line)

  abbrev own : Sequence
  own = record { high = line.high; low = line.low + n }

  own_is : sequence_number own ≡ new_sequence S on
  own_is = numbered line n zero ∙ ap (λ (k : ℕ). on * numbers_of_line + k) is_number

  pub over_number : numbers_of_line ≤ n → past_limit S on (eqb flag 1) ≡ true
  over_number h = past_number S on (eqb flag 1) is_number refl refl h

  module _ {b : ℕ} (is_block : b ≡ new_block S (eqb flag 1)) where
    pub over_block : field_limit < b → past_limit S on (eqb flag 1) ≡ true
    over_block h = past_block S on (eqb flag 1) is_number is_block refl h

    module _ {g : ℕ} (is_group : g ≡ new_group S (sequence_number own)) where
      group_is : g ≡ new_group S (new_sequence S on)
      group_is = is_group ∙ ap (new_group S) own_is

      pub over_group : field_limit < g → past_limit S on (eqb flag 1) ≡ true
      over_group h = past_group S on (eqb flag 1) is_number is_block group_is h

      pub within : n < numbers_of_line → b ≤ field_limit → g ≤ field_limit → (priority : ℕ) {p : Option Priority} → p ≡ priority_by (eqb flag 1) b priority
          → IsDraft S on flag priority (record { sequence = own; group = g; priority = p })
      within x y z priority e = record {
        within = past_none S on (eqb flag 1) is_number is_block group_is x y z;
        sequence = own_is;
        group = group_is;
        priority_is = e ∙ ap (λ (k : ℕ). priority_by (eqb flag 1) k priority) is_block;
      }

pub ruleset drafted = (over_number, over_block, over_group, within)
