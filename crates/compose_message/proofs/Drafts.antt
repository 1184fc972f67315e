-- A draft's dependencies are counted, and its message is written.
use Rattle.std.specs.Prelude.{◌≡◌, refl, Bool, true, false, cond, Result, Ok, Err, List, ℕ, ◌/◌, ◌≤◌, length, take, leb, ltb}
use Rattle.std.proofs.Common.{sym, ◌∙◌, ap, arith, leb-true, leb-false, length-take-le, le-ltb}
use Rattle.std.proofs.lemmas.Bool.{lt-ltb}
use Rattle.model.specs.Layout.{command_size, most_dependencies, capacity}
use Rattle.refusals.specs.declared.Refusal.{Refusal}
use Rattle.refusals.specs.declared.Refusal.TheVariants.{ManyDependencies}
use Rattle.refusals.specs.Refusals.{answer_code, checked, passed}
use Rattle.message_sequence.specs.Sequence.{sequence_number}
use Rattle.set_table.specs.Table.{set_in}
use Rattle.image_sections.specs.LogPlaces.{LogPlaces}
use Rattle.compose_writing.specs.Writing.{Writable, Writes}
use Rattle.compose_draft.specs.declared.drafting.Draft.{Draft}
use Rattle.compose_dependencies.specs.declared.Dependencies.{Dependencies}
use Rattle.compose_dependencies.specs.Unneeded.{IsDependencies}
use Rattle.compose_message.specs.Answer.{refusal, composed_by}
use Rattle.compose_message.specs.Stages.{header_with, drafted_answer, draft_answer, Draftable, Nameable}
use Rattle.compose_message.specs.StageLaws.{sized_eights, found_counted, drafted_written, by_count}

-- ---- the message of a draft with its dependencies
module _ (pool starts : List ℕ) (d : Draft) (found : Dependencies) (commands buffer : List ℕ) (needed : Nameable pool starts d found commands buffer) where
  pub found_fit : found.count ≤ capacity
  found_fit = needed.found_are.fits

  pub writable : length found.places ≡ capacity → Writable buffer (header_with d found.count (length commands / command_size)) pool starts (take found.count found.places) commands
  writable e =
      let eights = sized_eights commands needed.sized in
      record {
        room = needed.room;
        inside = record { holds = needed.holds; inside = needed.found_are.inside };
        dependencies_counted = sym (length-take-le found.count found.places (omega (arith, found_fit, e)));
        commands_counted = refl;
        eights = eights.whole;
        few = record { dependencies_fit = needed.few; commands_fit = eights.few };
      }

  pub is_written : (after : List ℕ) (size : ℕ) → Writes buffer (header_with d found.count (length commands / command_size)) pool starts (take found.count found.places) commands after size
      → composed_by (Ok size) after ≡ drafted_answer (set_in pool starts) d commands buffer
  is_written after size w = drafted_written pool starts d found commands buffer after found.count (length commands / command_size) size needed.found_are w

pub ruleset naming = (found_fit, writable)

-- ---- by the count of what was found
turned : {A : Type 0} (n most : ℕ) (x y : A) → cond (ltb most n) x y ≡ cond (leb n most) y x
turned {A} n most x y = go (leb n most) refl
  where
    go : (t : Bool) → leb n most ≡ t → cond (ltb most n) x y ≡ cond t y x
    go true e = ap (λ (b : Bool). cond b x y) (le-ltb most n (leb-true n most e))
    go false e = ap (λ (b : Bool). cond b x y) (lt-ltb most n (leb-false n most e))

module _ (pool starts places : List ℕ) (commands buffer : List ℕ) (needed : Draftable pool starts places commands buffer) where
  pub log_places : LogPlaces pool starts places
  log_places = needed.log

  module _ (d : Draft) (found : Dependencies) (are : IsDependencies pool starts (sequence_number d.sequence) found) where
    pub nameable : Ok tt ≡ checked ManyDependencies (leb found.count most_dependencies) → Nameable pool starts d found commands buffer
    nameable e = record {
      holds = needed.log.holds;
      sized = needed.sized;
      room = needed.room;
      found_are = are;
      few = leb-true found.count most_dependencies (passed ManyDependencies _ e);
    }

    module _ (all : length found.places ≡ capacity) where
      by_found : draft_answer (set_in pool starts) d commands buffer ≡ cond (leb found.count most_dependencies) (drafted_answer (set_in pool starts) d commands buffer) (refusal 11 buffer)
      by_found =
          sym (by_count (set_in pool starts) d commands buffer found.count (found_counted pool starts (sequence_number d.sequence) found all are) refl)
          ∙ turned found.count most_dependencies (refusal 11 buffer) (drafted_answer (set_in pool starts) d commands buffer)

      pub many : (e : Refusal) → Err e ≡ checked ManyDependencies (leb found.count most_dependencies) → composed_by (Err e) buffer ≡ draft_answer (set_in pool starts) d commands buffer
      many e h = go (leb found.count most_dependencies) refl h
        where
          go : (t : Bool) → leb found.count most_dependencies ≡ t → Err e ≡ checked ManyDependencies t → composed_by (Err e) buffer ≡ draft_answer (set_in pool starts) d commands buffer
          go true k q = grind arith
          go false k q =
              ap (λ (r : Result (Unit {0}) Refusal). refusal (answer_code r) buffer) q
              ∙ sym (by_found ∙ ap (λ (t : Bool). cond t (drafted_answer (set_in pool starts) d commands buffer) (refusal 11 buffer)) k)

      pub few_named : Ok tt ≡ checked ManyDependencies (leb found.count most_dependencies)
          → drafted_answer (set_in pool starts) d commands buffer ≡ draft_answer (set_in pool starts) d commands buffer
      few_named h =
          sym (by_found ∙ ap (λ (t : Bool). cond t (drafted_answer (set_in pool starts) d commands buffer) (refusal 11 buffer)) (passed ManyDependencies _ h))

pub ruleset drafting = (log_places, nameable)
