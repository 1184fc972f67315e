-- What the reader or the writer answered, as what is printed; and the line of an input.
use Rattle.std.specs.Prelude.{◌≡◌, refl, Bool, cond, take, drop, get_or, Result}
use Rattle.std.proofs.Common.{sym, ◌∙◌, arith, drop-cons, eq-eqb, ne_eqb, le-ltb}
use Rattle.std.proofs.Math.Path.{ap, ap₂}
use mathlib.Core.List.{List, [], ◌∷◌, ◌++◌}
use Prim.Native.Nat.{ℕ, zero, suc, ◌+◌, ◌-◌, ◌≤◌, ◌<◌}
use Rattle.std.proofs.Math.ListN.{length, set, length-append}
use Rattle.std.proofs.Math.Seq.{append_snoc, take-length}
use Rattle.std.proofs.lemmas.List.{set_at}
use Rattle.model.specs.Lists.{every}
use Rattle.model.specs.Layout.{sequences_room, text_room}
use Rattle.model.specs.Text.{text_of, sequence_bytes_in}
use Rattle.model.specs.Codes.{lowest_code, read_sequences_conditions, write_sequences_conditions}
use Rattle.model.specs.Calls.{written, Converted, converted_answer, read_sequences, write_sequences}
use Rattle.model.specs.Program.{line_feed, printable, without_line_feed, Printed, printed, printed_sequences, printed_text, other_form}
use Rattle.laws_codes.specs.Ladder.{free}
use Rattle.laws_text.specs.AnswerLaws.{read_told, write_told}
use Rattle.refusals.specs.declared.Refusal.{Refusal}
use Rattle.text_checks.specs.Answer.{converted_by, buffer_is}
use Rattle.sequences_forms.specs.Forms.{put_at_front, LineSize}

-- ---- a text: what the reader wrote is printed as it is
answer_printed : (n : ℕ) (new entry : List ℕ) → converted_answer n new entry ≡ put_at_front (printed n new) entry
unfolding put_at_front
answer_printed zero new entry = refl
answer_printed (suc n) new entry = refl

pub sequences_printed : (t entry : List ℕ) → sequences_room ≤ length entry → read_sequences t entry ≡ put_at_front (printed_sequences t) entry
sequences_printed t entry room =
    sym (read_told t entry (free (le-ltb (length entry) sequences_room room) (record { is = refl })))
    ∙ answer_printed (lowest_code (read_sequences_conditions t sequences_room)) (sequence_bytes_in t) entry

-- ---- sequences: what the writer wrote, and a line feed behind it
line_put : (new entry : List ℕ) → length new < length entry → set (written new entry) (length new) line_feed ≡ written (new ++ line_feed ∷ []) entry
line_put new entry h =
    ap (λ (l : List ℕ). set (new ++ l) (length new) line_feed) (drop-cons entry (length new) 0 h)
    ∙ set_at new (get_or entry (length new) 0) (drop (suc (length new)) entry) line_feed (length new) refl
    ∙ sym (append_snoc new line_feed (drop (suc (length new)) entry))
    ∙ ap (λ (n : ℕ). new ++ line_feed ∷ [] ++ drop n entry) {x = suc (length new)} {y = length (new ++ line_feed ∷ [])} (omega (arith, length-append new (line_feed ∷ [])))

-- with a code of 0 it is as long as the answer says
module _ (n : ℕ) (new entry : List ℕ) where
  line_printed : (size : ℕ) (exit : List ℕ) → record { code = 0; size = size; buffer = exit } ≡ converted_answer n new entry → size < length entry
      → record { code = 0; size = size + 1; buffer = set exit size line_feed } ≡ put_at_front (printed n (new ++ line_feed ∷ [])) entry
  unfolding put_at_front
  line_printed size exit e h = go n e
    where
      go : (n : ℕ) → record { code = 0; size = size; buffer = exit } ≡ converted_answer n new entry
          → record { code = 0; size = size + 1; buffer = set exit size line_feed } ≡ put_at_front (printed n (new ++ line_feed ∷ [])) entry
      go zero e =
          let long : size ≡ length new = ap (λ (a : Converted). a.size) e in
          ap₂ (λ (k : ℕ) (l : List ℕ). record { code = 0; size = k; buffer = l }) {x = size + 1} {y = length (new ++ line_feed ∷ [])} (omega (arith, length-append new (line_feed ∷ [])))
          (ap₂ (λ (l : List ℕ) (k : ℕ). set l k line_feed) (ap (λ (a : Converted). a.buffer) e) long ∙ line_put new entry (omega arith))
      go (suc n) e = let z : ⊥ = omega (arith, ap (λ (a : Converted). a.code) e) in absurd z

  refusal_printed : (a : Converted) → (a.code ≡ 0 → ⊥) → a ≡ converted_answer n new entry → a ≡ put_at_front (printed n (new ++ line_feed ∷ [])) entry
  unfolding put_at_front
  refusal_printed a f e = go n e
    where
      go : (n : ℕ) → a ≡ converted_answer n new entry → a ≡ put_at_front (printed n (new ++ line_feed ∷ [])) entry
      go zero e = absurd (f (ap (λ (b : Converted). b.code) e))
      go (suc n) e = e

module _ (b entry : List ℕ) (room : text_room < length entry) where
  abbrev code : ℕ
  code = lowest_code (write_sequences_conditions b text_room)

  answers : write_sequences b entry ≡ converted_answer code (text_of b) entry
  answers = sym (write_told b entry (free (le-ltb (length entry) text_room (omega arith)) (record { is = refl })))

  pub text_printed : (size : ℕ) (exit : List ℕ) → record { code = 0; size = size; buffer = exit } ≡ write_sequences b entry → size ≤ text_room
      → record { code = 0; size = size + 1; buffer = set exit size line_feed } ≡ put_at_front (printed_text b) entry
  text_printed size exit e h = line_printed code (text_of b) entry size exit (e ∙ answers) (omega arith)

  pub text_refused : (a : Converted) → (a.code ≡ 0 → ⊥) → a ≡ write_sequences b entry → a ≡ put_at_front (printed_text b) entry
  text_refused a f e = refusal_printed code (text_of b) entry a f (e ∙ answers)

-- ---- the two forms of an input
abbrev form_by : Bool → List ℕ → Printed
form_by t input = cond t (printed_sequences (without_line_feed input)) (printed_text input)

pub form_is : (input : List ℕ) {t : Bool} → every printable (without_line_feed input) ≡ t → form_by t input ≡ other_form input
unfolding other_form
form_is input e = ap (λ (t : Bool). form_by t input) (sym e)

-- ---- what is printed lies within the output
pub put_inside : (p : Printed) (entry : List ℕ) (r : Result ℕ Refusal) (exit : List ℕ) → converted_by r exit ≡ put_at_front p entry → (converted_by r exit).size ≤ length exit
unfolding put_at_front
put_inside p entry r exit e =
    let long : (converted_by r exit).size ≡ length p.output = ap (λ (a : Converted). a.size) e in
    let whole : length exit ≡ length (written p.output entry) = ap length (buffer_is r exit ∙ ap (λ (a : Converted). a.buffer) e) in
    omega (arith, length-append p.output (drop (length p.output) entry))

-- ---- the line of an input
pub no_line : (input : List ℕ) → length input ≡ 0 → LineSize input 0
unfolding without_line_feed
no_line [] e = record { inside = omega arith; line = refl }
no_line (x ∷ input) e = let z : ⊥ = omega arith in absurd z

pub line_fed : (input : List ℕ) → get_or input (length input - 1) 0 ≡ line_feed → LineSize input (length input - 1)
unfolding without_line_feed
line_fed input e = record {
  inside = omega arith;
  line = sym (ap (λ (b : Bool). cond b (take (length input - 1) input) input) (eq-eqb (get_or input (length input - 1) 0) line_feed e));
}

pub line_whole : (input : List ℕ) → (get_or input (length input - 1) 0 ≡ line_feed → ⊥) → LineSize input (length input)
unfolding without_line_feed
line_whole input f = record {
  inside = omega arith;
  line = take-length input ∙ sym (ap (λ (b : Bool). cond b (take (length input - 1) input) input) (ne_eqb (get_or input (length input - 1) 0) line_feed f));
}
