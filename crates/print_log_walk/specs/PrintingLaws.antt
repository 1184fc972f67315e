-- From one message to the next, and to the end.
use Rattle.std.specs.Prelude.{◌≡◌, refl, Bool, ℕ, ◌+◌, ◌≤◌, ◌<◌, T, length, drop, get_or}
use Rattle.std.proofs.Common.{sym, ◌∙◌, ap₂, subst, arith, add-one, drop_of_length-le, drop-cons, eq-eqb}
use Rattle.std.proofs.Math.Path.{ap}
use Rattle.std.proofs.Math.Bool.{cond}
use mathlib.Core.List.{List, [], ◌++◌}
use Rattle.model.specs.Layout.{capacity}
use Rattle.model.specs.Message.{Message, layout_right}
use Rattle.model.specs.Image.{log_count, log_in, messages_in, message_offset, is_image}
use Rattle.model.specs.Codes.{lowest_code, read_conditions}
use Rattle.model.specs.Calls.{log_message_code, log_message}
use Rattle.model.specs.Program.{log_line, log_lines}
use Rattle.laws_wire.specs.MessageLaws.{passes_layout}
use Rattle.laws_state.specs.ImageSetLaws.{image_messages}
use Rattle.laws_state.specs.OffsetLaws.{count_messages, log_count_lem, log_message_lem, message_passes}
use Rattle.read_log.specs.Reader.{first_offset}
use Rattle.read_log.specs.ReaderLaws.{code_image}
use Rattle.read_offsets.specs.Offsets.{offset_after}
use Rattle.read_offsets.specs.OffsetLaws.{offset_start, offset_after_lem}
use Rattle.program_decimal.specs.Puts.{Puts}
use Rattle.program_decimal.specs.Ahead.{Ahead, ahead_all, ahead_next, ahead_none}
use Rattle.print_log_line.specs.Rooms.{line_room}
use Rattle.print_log_walk.specs.Printing.{log_room, lines_from, Printing}
use Rattle.print_log_walk.specs.CodeLaws.{code_found}

-- ---- the lines one by one
module _ (b : List ℕ) where
  lines_next : (place : ℕ) → place < log_count b → lines_from b place ≡ log_line place (message_offset b place) (get_or (log_in b) place []) ++ lines_from b (place + 1)
  unfolding lines_from
  lines_next place h =
      ap (log_lines b place) (drop-cons (log_in b) place [] (omega (arith, log_count_lem b)))
      ∙ ap (λ (n : ℕ). log_line place (message_offset b place) (get_or (log_in b) place []) ++ log_lines b n (drop n (log_in b))) (sym (add-one place))

  pub lines_end : (place : ℕ) → log_count b ≤ place → lines_from b place ≡ []
  unfolding lines_from
  lines_end place h = ap (log_lines b place) (drop_of_length-le (log_in b) {i = place} (omega (arith, log_count_lem b)))

-- ---- a message that log message finds
module _ (b : List ℕ) (place : ℕ) (found : log_message_code b place ≡ 0) where
  more : place < log_count b
  more = (code_found b place found).1

  image : T (is_image b)
  image = (code_image b (code_found b place found).0).1

  message_is : log_message b place ≡ get_or (log_in b) place []
  unfolding log_message
  message_is = ap (λ (t : Bool). cond t (get_or (log_in b) place []) []) (eq-eqb (log_message_code b place) 0 found)

  pub message_right : T (layout_right (log_message b place))
  message_right =
      subst (λ (m : Message). T (layout_right m)) (sym (message_is ∙ log_message_lem b place more))
      (passes_layout (get_or (messages_in b) place []) (message_passes b image place (omega (arith, more, count_messages b))))

  pub place_few : place < capacity
  place_few = omega (arith, more, (image_messages b image).fits)

-- ---- how far the program is
module _ {b entry : List ℕ} where
  pub printing_first : lowest_code (read_conditions b) ≡ 0 → {offset : ℕ} → offset ≡ first_offset b → Printing b entry entry 0 offset 0
  printing_first accepted e = record {
    inside = omega arith;
    located = e ∙ offset_start b accepted;
    room = omega arith;
    size = refl;
    ahead = ahead_all (lines_from b 0) entry 0;
  }

  module _ {out : List ℕ} {place offset at : ℕ} (p : Printing b entry out place offset at) where
    pub printing_room : log_message_code b place ≡ 0 → log_room ≤ length entry → at + line_room ≤ length out
    printing_room found h = omega (arith, p.room, p.size, place_few b place found)

    pub printing_next : log_message_code b place ≡ 0 → log_room ≤ length entry → {r moved : ℕ} {exit : List ℕ}
        → Puts out at line_room (log_line place offset (log_message b place)) r exit → length exit ≡ length out → moved ≡ offset_after b offset
        → Printing b entry exit (place + 1) moved r
    printing_next found h {r} {exit = exit} q same e = record {
      inside = omega (arith, more b place found);
      located = e ∙ ap (offset_after b) p.located ∙ offset_after_lem b (code_found b place found).0 place (more b place found);
      room = omega (arith, p.room, q.end, q.few);
      size = same ∙ p.size;
      ahead =
          ahead_next (printing_room found h) (subst (Ahead (lines_from b 0) entry 0 out at) (lines_next b place (more b place found)) p.ahead)
          (subst (λ (l : List ℕ). Puts out at line_room l r exit) (ap₂ (log_line place) p.located (message_is b place found)) q);
    }

    pub printing_end : lowest_code (read_conditions b) ≡ 0 → log_count b ≤ place → Puts entry 0 log_room (lines_from b 0) at out
    printing_end accepted h =
        ahead_none (omega (arith, p.room, p.inside, (image_messages b (code_image b accepted).1).fits))
        (subst (Ahead (lines_from b 0) entry 0 out at) (lines_end b place h) p.ahead)
