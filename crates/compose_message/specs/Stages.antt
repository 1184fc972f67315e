-- Compose from its later codes on: what is needed there, and what is answered.
use Rattle.std.specs.Prelude.{◌≡◌, cond, ◌||◌, List, [], ◌∷◌, ℕ, ◌/◌, ◌≤◌, length, T, eqb, ltb}
use Rattle.model.specs.Layout.{line_size, command_size, most_dependencies, message_room}
use Rattle.model.specs.Message.{Message}
use Rattle.model.specs.Order.{State}
use Rattle.model.specs.Compose.{new_dependencies, composed}
use Rattle.model.specs.Codes.{Conditions, lowest_code, commands_sized, held_on, past_limit, many_dependencies}
use Rattle.model.specs.Calls.{Composed, written, compose_answer}
use Rattle.message_sequence.specs.Sequence.{sequence_number}
use Rattle.message_header.specs.declared.header.Header.{Header}
use Rattle.set_table.specs.Table.{Holds}
use Rattle.image_sections.specs.LogPlaces.{LogPlaces}
use Rattle.compose_writing.specs.Writing.{message_for}
use Rattle.compose_draft.specs.declared.drafting.Draft.{Draft}
use Rattle.compose_dependencies.specs.declared.Dependencies.{Dependencies}
use Rattle.compose_dependencies.specs.Unneeded.{IsDependencies}
use Rattle.compose_message.specs.Answer.{refusal}

-- ---- codes 9 to 11, and the message
abbrev pub late_conditions : State → ℕ → ℕ → Conditions
late_conditions S line flag = (9, held_on S line) ∷ (10, past_limit S line (eqb flag 1)) ∷ (11, many_dependencies S line) ∷ []

unfoldable pub late_answer : State → ℕ → List ℕ → ℕ → ℕ → List ℕ → Composed
late_answer S line commands flag priority buffer =
    compose_answer (lowest_code (late_conditions S line flag)) (composed S line commands (eqb flag 1) priority) buffer

-- ---- the message of a draft, with the dependencies that its sequence has
abbrev pub header_with : Draft → ℕ → ℕ → Header
header_with d D C = record { sequence = d.sequence; group = d.group; dependencies = D; commands = C; priority = d.priority }

abbrev pub names_of : State → Draft → List ℕ
names_of S d = new_dependencies S (sequence_number d.sequence)

abbrev pub drafted_message : State → Draft → List ℕ → Message
drafted_message S d commands = message_for (header_with d (length (names_of S d)) (length commands / command_size)) (names_of S d) commands

unfoldable pub drafted_answer : State → Draft → List ℕ → List ℕ → Composed
drafted_answer S d commands buffer = record { code = 0; size = length (drafted_message S d commands); message = written (drafted_message S d commands) buffer }

unfoldable pub draft_answer : State → Draft → List ℕ → List ℕ → Composed
draft_answer S d commands buffer = cond (ltb most_dependencies (length (names_of S d))) (refusal 11 buffer) (drafted_answer S d commands buffer)

-- ---- what is needed
pub record Draftable (pool starts places commands buffer : List ℕ) : Type 0 where
  pub log : LogPlaces pool starts places
  pub sized : T (commands_sized commands)
  pub room : message_room ≤ length buffer

pub record Nameable (pool starts : List ℕ) (d : Draft) (found : Dependencies) (commands buffer : List ℕ) : Type 0 where
  pub holds : Holds pool starts
  pub sized : T (commands_sized commands)
  pub room : message_room ≤ length buffer
  pub found_are : IsDependencies pool starts (sequence_number d.sequence) found
  pub few : found.count ≤ most_dependencies

-- what the codes before 9 let through
pub record Composable (line commands : List ℕ) (flag priority : ℕ) (buffer : List ℕ) : Type 0 where
  pub ten : length line ≡ line_size
  pub sized : T (commands_sized commands)
  pub given : T (eqb flag 1 || eqb priority 0)
  pub room : message_room ≤ length buffer
