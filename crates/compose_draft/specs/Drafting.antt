-- What a draft is: a new delta's sequence, group and priority, within their limits.
use Rattle.std.specs.Prelude.{◌≡◌, Bool, true, false, cond, Option, Some, None, Result, Ok, Err, ℕ, eqb}
use Rattle.model.specs.Order.{State}
use Rattle.model.specs.Compose.{new_sequence, new_group, new_block}
use Rattle.model.specs.Codes.{past_limit}
use Rattle.message_sequence.specs.Sequence.{sequence_number}
use Rattle.message_header.specs.declared.header.Priority.{Priority}
use Rattle.refusals.specs.declared.Refusal.{Refusal}
use Rattle.refusals.specs.declared.Refusal.TheVariants.{PastLimit}
use Rattle.compose_draft.specs.declared.drafting.Draft.{Draft}

-- block and priority where the flag is set
abbrev pub priority_by : Bool → ℕ → ℕ → Option Priority
priority_by flag block priority = cond flag (Some (record { block = block; priority = priority })) None

pub record IsDraft (S : State) (line flag priority : ℕ) (d : Draft) : Type 0 where
  pub within : past_limit S line (eqb flag 1) ≡ false
  pub sequence : sequence_number d.sequence ≡ new_sequence S line
  pub group : d.group ≡ new_group S (new_sequence S line)
  pub priority_is : d.priority ≡ priority_by (eqb flag 1) (new_block S (eqb flag 1)) priority

abbrev pub Drafts : State → ℕ → ℕ → ℕ → Result Draft Refusal → Type 0
Drafts S line flag priority (Ok d) = IsDraft S line flag priority d
Drafts S line flag priority (Err e) = (e ≡ PastLimit) × (past_limit S line (eqb flag 1) ≡ true)
