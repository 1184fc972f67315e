-- What each stage behind the log tells of the line and of its draft.
use Rattle.std.specs.Prelude.{◌≡◌, refl, Bool, true, false, not, Ok, Err, List, ℕ, ◌*◌, length}
use Rattle.std.proofs.Common.{sym, ◌∙◌, ap, subst, arith}
use Rattle.model.specs.Bytes.{number}
use Rattle.model.specs.Layout.{line_size, numbers_of_line}
use Rattle.model.specs.Message.{line_of, number_of}
use Rattle.model.specs.Order.{State}
use Rattle.model.specs.Codes.{held_on}
use Rattle.refusals.specs.declared.Refusal.{Refusal}
use Rattle.refusals.specs.declared.Refusal.TheVariants.{HeldLine, PastLimit}
use Rattle.refusals.specs.Refusals.{checked, passed}
use Rattle.message_sequence.specs.declared.Sequence.{Sequence}
use Rattle.message_sequence.specs.Sequence.{sequence_number}
use Rattle.image_sections.specs.LogPlaces.{LogPlaces}
use Rattle.compose_draft.specs.declared.drafting.Draft.{Draft}
use Rattle.compose_draft.specs.Drafting.{Drafts}
use Rattle.compose_message.specs.Answer.{composed_by}
use Rattle.compose_message.specs.Stages.{Composable, Draftable, draft_answer, late_answer}
use Rattle.compose_message.specs.StageLaws.{line_back, held_case, past_case, draft_case}

module _ (line commands : List ℕ) (flag priority : ℕ) (buffer : List ℕ) (needed : Composable line commands flag priority buffer) where
  pub ten_bytes : length line ≡ line_size
  ten_bytes = needed.ten

  pub draftable : (pool starts places : List ℕ) → LogPlaces pool starts places → Draftable pool starts places commands buffer
  draftable pool starts places log = record { log = log; sized = needed.sized; room = needed.room }

  -- the line, as the sequence of its number 0000
  module _ (first : Sequence) (read : sequence_number first ≡ number line * numbers_of_line) where
    line_is : line_of (sequence_number first) ≡ number line
    line_is = line_back first (number line) read

    pub number_zero : number_of (sequence_number first) ≡ 0
    number_zero = omega (arith, read)

    module _ (S : State) where
      held_is : not (held_on S (line_of (sequence_number first))) ≡ not (held_on S (number line))
      held_is = ap (λ (n : ℕ). not (held_on S n)) line_is

      pub held : (e : Refusal) → Err e ≡ checked HeldLine (not (held_on S (line_of (sequence_number first)))) → composed_by (Err HeldLine) buffer ≡ late_answer S (number line) commands flag priority buffer
      held e h = go (held_on S (number line)) refl (h ∙ ap (checked HeldLine) held_is)
        where
          go : (t : Bool) → held_on S (number line) ≡ t → Err e ≡ checked HeldLine (not t) → composed_by (Err HeldLine) buffer ≡ late_answer S (number line) commands flag priority buffer
          go true k q = held_case S (number line) flag priority commands buffer k
          go false k q = grind arith

      module _ (pass : Ok tt ≡ checked HeldLine (not (held_on S (line_of (sequence_number first))))) where
        free : held_on S (number line) ≡ false
        free = go (held_on S (number line)) (sym held_is ∙ passed HeldLine _ pass)
          where
            go : (t : Bool) → not t ≡ true → t ≡ false
            go true q = grind arith
            go false q = refl

        pub past : (e : Refusal) → Drafts S (line_of (sequence_number first)) flag priority (Err e) → composed_by (Err PastLimit) buffer ≡ late_answer S (number line) commands flag priority buffer
        past e h =
            let g = subst (λ (n : ℕ). Drafts S n flag priority (Err e)) line_is h in
            past_case S (number line) flag priority commands buffer free g.1

        pub drafts : (d : Draft) → Drafts S (line_of (sequence_number first)) flag priority (Ok d) → draft_answer S d commands buffer ≡ late_answer S (number line) commands flag priority buffer
        drafts d h =
            let g = subst (λ (n : ℕ). Drafts S n flag priority (Ok d)) line_is h in
            draft_case S (number line) flag priority commands buffer d g needed.given free

pub ruleset late = (ten_bytes, draftable, number_zero, held, past, drafts)
