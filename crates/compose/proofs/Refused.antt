-- What each refusal of compose tells, and what is left when none has refused.
use Rattle.std.specs.Prelude.{◌≡◌, refl, Bool, true, false, Ok, Err, List, ℕ, ◌<◌, length, T, slice_index}
use Rattle.std.proofs.Common.{sym, arith}
use Rattle.model.specs.Bytes.{is_bytes, number}
use Rattle.model.specs.Layout.{image_size}
use Rattle.model.specs.Image.{state_in, is_image}
use Rattle.model.specs.Codes.{commands_sized, compose_content}
use Rattle.model.specs.Calls.{Composed, compose}
use Rattle.laws_order.specs.TestLaws.{true_T}
use Rattle.buffer_reads.specs.FieldLaws.{all_bytes}
use Rattle.refusals.specs.declared.Refusal.{Refusal}
use Rattle.refusals.specs.declared.Refusal.TheVariants.{WrongSize, NoImage, WrongLayout, WrongContent}
use Rattle.refusals.specs.Refusals.{checked, passed}
use Rattle.image_listed.specs.declared.Station.{Station}
use Rattle.image_judged.specs.Judging.{IsStation, Judges}
use Rattle.compose_checks.specs.Checks.{sizes_right}
use Rattle.compose_checks.specs.CheckLaws.{Sizes, sizes_out, content_given}
use Rattle.compose_message.specs.Answer.{composed_by}
use Rattle.compose_message.specs.Stages.{Composable, late_answer}
use Rattle.compose.specs.ComposeCases.{sizes_case, image_case, commands_case, content_case, late_case}

-- the refusal of a check that refused, where its test's failing gives that refusal's answer
by_check : (why e : Refusal) (t : Bool) (buffer : List ℕ) (a : Composed) → (false ≡ t → composed_by (Err why) buffer ≡ a) → Err e ≡ checked why t → composed_by (Err why) buffer ≡ a
by_check why e true buffer a f q = grind arith
by_check why e false buffer a f q = f refl

pub station_image : (b : List ℕ) (r : Station) → IsStation b r → T (is_image b)
station_image b r is = is.image

module _ (b line commands : List ℕ) (flag priority : ℕ) (buffer : List ℕ) where
  abbrev sizes : Bool
  sizes = sizes_right (length b) (length buffer) (length line)

  abbrev answer : Composed
  answer = compose b line commands flag priority buffer

  pub image_sized : Ok tt ≡ checked WrongSize sizes → length b ≡ image_size
  image_sized s = (sizes_out (length b) (length buffer) (length line) (true_T _ (passed WrongSize sizes s))).image_size_lem

  module _ (bytes : (i : ℕ) → slice_index line i < 256) where
    line_bytes : T (is_bytes line)
    line_bytes = all_bytes line bytes

    pub wrong_size : (e : Refusal) → Err e ≡ checked WrongSize sizes → composed_by (Err WrongSize) buffer ≡ answer
    wrong_size e = by_check WrongSize e sizes buffer answer (λ f. sizes_case b line commands flag priority buffer line_bytes f)

    module _ (s : Ok tt ≡ checked WrongSize sizes) where
      sized : true ≡ sizes
      sized = sym (passed WrongSize sizes s)

      pub no_image : (e : Refusal) → Judges b (Err e) → composed_by (Err NoImage) buffer ≡ answer
      no_image e j = image_case b line commands flag priority buffer line_bytes sized j.1

      module _ (image : T (is_image b)) where
        pub wrong_layout : (e : Refusal) → Err e ≡ checked WrongLayout (commands_sized commands) → composed_by (Err WrongLayout) buffer ≡ answer
        wrong_layout e = by_check WrongLayout e (commands_sized commands) buffer answer (λ f. commands_case b line commands flag priority buffer line_bytes sized image f)

        module _ (w : Ok tt ≡ checked WrongLayout (commands_sized commands)) where
          eights : true ≡ commands_sized commands
          eights = sym (passed WrongLayout (commands_sized commands) w)

          pub wrong_content : (e : Refusal) → Err e ≡ checked WrongContent (compose_content commands flag priority) → composed_by (Err WrongContent) buffer ≡ answer
          wrong_content e = by_check WrongContent e (compose_content commands flag priority) buffer answer (λ f. content_case b line commands flag priority buffer line_bytes sized image eights f)

          pub none_refused : Ok tt ≡ checked WrongContent (compose_content commands flag priority) → late_answer (state_in b) (number line) commands flag priority buffer ≡ answer
          none_refused c = late_case b line commands flag priority buffer line_bytes sized image eights (sym (passed WrongContent (compose_content commands flag priority) c))

  pub composable : Ok tt ≡ checked WrongSize sizes → Ok tt ≡ checked WrongLayout (commands_sized commands) → Ok tt ≡ checked WrongContent (compose_content commands flag priority)
      → Composable line commands flag priority buffer
  composable s w c =
      let are : Sizes (length b) (length buffer) (length line) = sizes_out (length b) (length buffer) (length line) (true_T _ (passed WrongSize sizes s)) in
      record {
        ten = are.line_size_lem;
        sized = true_T _ (passed WrongLayout (commands_sized commands) w);
        given = content_given flag priority commands (true_T _ (passed WrongContent (compose_content commands flag priority) c));
        room = are.room_size;
      }

pub ruleset refused = (image_sized, composable)
