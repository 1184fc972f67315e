-- What the later codes decide; and a draft's message is the composed one.
use Rattle.std.specs.Prelude.{◌≡◌, Bool, true, false, ◌||◌, Option, Some, None, Ok, ℕ, ◌*◌, ◌/◌, ◌%◌, ◌≤◌, length, T, eqb, leb}
use Rattle.std.proofs.Math.Path.{refl, ap, ap₂}
use Rattle.std.proofs.Common.{sym, ◌∙◌, arith, length-take-le, eqb→eq, leb→le}
use Rattle.std.proofs.Math.Bool.{cond}
use mathlib.Core.List.{List}
use Rattle.std.proofs.lemmas.List.{length-map}
use Rattle.std.proofs.Math.Dec.{ltb}
use Rattle.model.specs.Layout.{command_size, numbers_of_line, most_dependencies, most_commands, capacity}
use Rattle.model.specs.Message.{Message, line_of}
use Rattle.model.specs.Order.{State}
use Rattle.model.specs.Compose.{message_of, new_sequence, new_block, new_dependencies, composed}
use Rattle.model.specs.Codes.{commands_sized, held_on, past_limit, many_dependencies}
use Rattle.model.specs.Calls.{Composed, written, compose_answer}
use Rattle.laws_order.specs.TestLaws.{and_l, and_r}
use Rattle.laws_codes.specs.Ladder.{Answers, none, met, free}
use Rattle.message_sequence.specs.declared.Sequence.{Sequence}
use Rattle.message_sequence.specs.Sequence.{sequence_number}
use Rattle.message_header.specs.declared.header.Priority.{Priority}
use Rattle.set_table.specs.Table.{set_in}
use Rattle.set_table.specs.Places.{sequence_in}
use Rattle.compose_writing.specs.Writing.{message_with, message_for, names_at, Writes}
use Rattle.compose_draft.specs.declared.drafting.Draft.{Draft}
use Rattle.compose_draft.specs.Drafting.{priority_by, IsDraft}
use Rattle.compose_dependencies.specs.declared.Dependencies.{Dependencies}
use Rattle.compose_dependencies.specs.Unneeded.{places_found, IsDependencies}
use Rattle.compose_message.specs.Answer.{refusal, composed_by}
use Rattle.compose_message.specs.Stages.{late_conditions, late_answer, header_with, names_of, drafted_message, drafted_answer, draft_answer}

-- ---- commands by eights, and no more than eight
pub record Eights (commands : List ℕ) : Type 0 where
  pub whole : length commands ≡ command_size * (length commands / command_size)
  pub few : length commands / command_size ≤ most_commands

pub sized_eights : (commands : List ℕ) → T (commands_sized commands) → Eights commands
sized_eights commands t =
    let a : T (eqb (length commands % command_size) 0) = search (and_l, and_r) depth 6 in
    let b : T (leb (length commands) (command_size * most_commands)) = search (and_l, and_r) depth 6 in
    let e : length commands % 8 ≡ 0 = eqb→eq (length commands % command_size) 0 a in
    let f : length commands ≤ 64 = leb→le (length commands) (command_size * most_commands) b in
    record { whole = omega arith; few = omega arith }

-- ---- a draft's message, written
-- the counts of a header are not asked of its message
counts_free : (d : Draft) (D C D' C' : ℕ) (names commands : List ℕ) → message_for (header_with d D C) names commands ≡ message_for (header_with d D' C') names commands
unfolding message_for
counts_free d D C D' C' names commands = go d.priority
  where
    go : (p : Option Priority) → message_with (header_with d D C) p names commands ≡ message_with (header_with d D' C') p names commands
    go None = refl
    go (Some p) = refl

pub drafted_written : (pool starts : List ℕ) (d : Draft) (found : Dependencies) (commands buffer after : List ℕ) (D C size : ℕ)
    → IsDependencies pool starts (sequence_number d.sequence) found → Writes buffer (header_with d D C) pool starts (places_found found) commands after size
    → composed_by (Ok size) after ≡ drafted_answer (set_in pool starts) d commands buffer
unfolding drafted_answer
drafted_written pool starts d found commands buffer after D C size f w =
    ap₂ (λ (n : ℕ) (l : List ℕ). record { code = 0; size = n; message = l }) w.length_is w.message
    ∙ ap (λ (m : Message). record { code = 0; size = length m; message = written m buffer }) same
  where
    S : State
    S = set_in pool starts

    same : message_for (header_with d D C) (names_at pool starts (places_found found)) commands ≡ drafted_message S d commands
    same =
        ap (λ (names : List ℕ). message_for (header_with d D C) names commands) f.names
        ∙ counts_free d D C (length (names_of S d)) (length commands / command_size) (names_of S d) commands

module _ (S : State) (d : Draft) (commands buffer : List ℕ) (count : ℕ) (counted : count ≡ length (names_of S d)) where
  pub by_count : {many : Bool} → ltb most_dependencies count ≡ many → cond many (refusal 11 buffer) (drafted_answer S d commands buffer) ≡ draft_answer S d commands buffer
  unfolding draft_answer
  by_count e = ap (λ (b : Bool). cond b (refusal 11 buffer) (drafted_answer S d commands buffer)) (sym e ∙ ap (ltb most_dependencies) counted)

-- ---- by priority: without the flag both block and priority are zero
message_with_lem : (S : State) (d : Draft) (D C : ℕ) (names commands : List ℕ) (flag : Bool) (priority : ℕ) → T (flag || eqb priority 0)
    → message_with (header_with d D C) (priority_by flag (new_block S flag) priority) names commands ≡ message_of flag (sequence_number d.sequence) d.group (new_block S flag) priority names commands
message_with_lem S d D C names commands true priority t = refl
message_with_lem S d D C names commands false priority t =
    ap (λ (p : ℕ). message_of false (sequence_number d.sequence) d.group 0 p names commands) (sym (eqb→eq priority 0 t))

module _ (S : State) (line flag priority : ℕ) (commands buffer : List ℕ) where
  abbrev later : ℕ → Composed
  later code = compose_answer code (composed S line commands (eqb flag 1) priority) buffer

  late : {n : ℕ} → Answers (late_conditions S line flag) n → later n ≡ late_answer S line commands flag priority buffer
  unfolding late_answer
  late r = ap later (sym r.is)

  pub held_case : held_on S line ≡ true → refusal 9 buffer ≡ late_answer S line commands flag priority buffer
  held_case e = late (met e)

  pub past_case : held_on S line ≡ false → past_limit S line (eqb flag 1) ≡ true → refusal 10 buffer ≡ late_answer S line commands flag priority buffer
  past_case h e = late (free h (met e))

  module _ (d : Draft) (is : IsDraft S line flag priority d) (given : T (eqb flag 1 || eqb priority 0)) where
    names_are : names_of S d ≡ new_dependencies S (new_sequence S line)
    names_are = ap (new_dependencies S) is.sequence

    drafted_message_lem : drafted_message S d commands ≡ composed S line commands (eqb flag 1) priority
    unfolding composed message_for
    drafted_message_lem =
        ap (λ (p : Option Priority). message_with (header_with d (length (names_of S d)) (length commands / command_size)) p (names_of S d) commands) is.priority_is
        ∙ message_with_lem S d (length (names_of S d)) (length commands / command_size) (names_of S d) commands (eqb flag 1) priority given
        ∙ ap₂ (λ (s g : ℕ). message_of (eqb flag 1) s g (new_block S (eqb flag 1)) priority (new_dependencies S s) commands) is.sequence is.group

    pub draft_case : held_on S line ≡ false → draft_answer S d commands buffer ≡ late_answer S line commands flag priority buffer
    unfolding draft_answer drafted_answer
    draft_case h = go (ltb most_dependencies (length (names_of S d))) refl
      where
        many : {t : Bool} → ltb most_dependencies (length (names_of S d)) ≡ t → many_dependencies S line ≡ t
        many e = ap (λ (names : List ℕ). ltb most_dependencies (length names)) (sym names_are) ∙ e

        go : (t : Bool) → ltb most_dependencies (length (names_of S d)) ≡ t → cond t (refusal 11 buffer) (drafted_answer S d commands buffer) ≡ late_answer S line commands flag priority buffer
        go true e = late (free h (free is.within (met (many e))))
        go false e = ap (λ (m : Message). record { code = 0; size = length m; message = written m buffer }) drafted_message_lem
            ∙ late (free h (free is.within (free (many e) none)))

-- ---- what the checks told
-- as many places as dependencies
pub found_counted : (pool starts : List ℕ) (s : ℕ) (r : Dependencies) → length r.places ≡ capacity → IsDependencies pool starts s r → r.count ≡ length (new_dependencies (set_in pool starts) s)
found_counted pool starts s r e f =
    sym (length-take-le r.count r.places (omega (arith, f.fits))) ∙ sym (length-map (places_found r) (sequence_in pool starts)) ∙ ap length f.names

-- the line's number, of the sequence of its number 0000
pub line_back : (first : Sequence) (n : ℕ) → sequence_number first ≡ n * numbers_of_line → line_of (sequence_number first) ≡ n
line_back first n e = omega arith
