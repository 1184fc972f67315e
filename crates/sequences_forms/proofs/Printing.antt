-- What the writer refuses is refused; what it wrote leaves room for a line feed.
use Rattle.std.specs.Prelude.{◌≡◌, List, ℕ, ◌+◌, ◌≤◌, ◌<◌, length, set, take, cond, refl, Ok, Err}
use Rattle.std.proofs.Common.{sym, ◌∙◌, ap, subst}
use Rattle.model.specs.Lists.{every}
use Rattle.model.specs.Layout.{text_room}
use Rattle.model.specs.Calls.{Converted, write_sequences}
use Rattle.model.specs.Program.{line_feed, printable, printed_text, printed_sequences, other_form}
use Rattle.laws_text.specs.RoundTrips.{write_short}
use Rattle.refusals.specs.declared.Refusal.{Refusal}
use Rattle.text_checks.specs.Answer.{converted_by}
use Rattle.text_checks.proofs.ConversionTags.{not_written}
use Rattle.sequences_forms.specs.Forms.{put_at_front, LineSize}
use Rattle.sequences_forms.specs.FormCases.{text_printed, text_refused, form_is}

module _ (b entry : List ℕ) where
  pub written_short : (size : ℕ) (exit : List ℕ) → converted_by (Ok size) exit ≡ write_sequences b entry → size ≤ text_room
  written_short size exit e = subst (λ (x : Converted). x.size ≤ text_room) (sym e) (write_short b entry)

  module _ (room : text_room < length entry) where
    pub line_refused : (why : Refusal) (exit : List ℕ) → converted_by (Err why) exit ≡ write_sequences b entry → converted_by (Err why) exit ≡ put_at_front (printed_text b) entry
    line_refused why exit e = text_refused b entry room (converted_by (Err why) exit) (not_written why exit) e

    pub line_put : (size : ℕ) (exit : List ℕ) → converted_by (Ok size) exit ≡ write_sequences b entry
        → converted_by (Ok (size + 1)) (set exit size line_feed) ≡ put_at_front (printed_text b) entry
    line_put size exit e = text_printed b entry room size exit e (written_short size exit e)

-- what is printed of an input, by its line
pub by_line : (input : List ℕ) (size : ℕ) → LineSize input size
    → other_form input ≡ cond (every printable (take size input)) (printed_sequences (take size input)) (printed_text input)
by_line input size s =
    sym (form_is input refl) ∙ ap (λ (l : List ℕ). cond (every printable l) (printed_sequences l) (printed_text input)) (sym s.line)

pub ruleset printing = (written_short, line_refused, line_put)
