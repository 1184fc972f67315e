-- What a message's delivery answers, and its line.
use Rattle.std.specs.Prelude.{◌≡◌, List, ℕ, Result, Ok, Err}
use Rattle.model.specs.Calls.{Delivered, deliver}
use Rattle.model.specs.Program.{printed_line, step_buffer}
use Rattle.program_decimal.specs.Puts.{Puts}
use Rattle.listing_lines.specs.Rooms.{line_room}
use Rattle.refusals.specs.declared.Refusal.{Refusal}
use Rattle.refusals.specs.Refusals.{code_of}
use Rattle.deliver_accepting.specs.declared.Counts.{Counts}
use Rattle.listing_message.specs.declared.delivering.Outcome.{Outcome}

-- An answer's code and counts.
abbrev pub outcome_by : Result Counts Refusal → Outcome
outcome_by (Ok counts) = record { code = 0; undos = counts.undos; executions = counts.executions }
outcome_by (Err why) = record { code = code_of why; undos = 0; executions = 0 }

-- A delivery of the listing program, under a name that stays shut.
unfoldable pub answered : List ℕ → List ℕ → Delivered
answered image message = deliver image message step_buffer

pub record Answers (image message : List ℕ) (r : Outcome) (exit : List ℕ) : Type 0 where
  pub code : r.code ≡ (answered image message).code
  pub undos : r.undos ≡ (answered image message).undos
  pub executions : r.executions ≡ (answered image message).executions
  pub image_after : exit ≡ (answered image message).image

-- The line of an answer.
unfoldable pub answer_line : ℕ → Delivered → List ℕ
answer_line number a = printed_line number a.code a.undos a.executions

pub record Listed (image message out : List ℕ) (at number r : ℕ) (image_exit out-exit : List ℕ) : Type 0 where
  pub line : Puts out at line_room (answer_line number (answered image message)) r out-exit
  pub image_after : image_exit ≡ (answered image message).image
