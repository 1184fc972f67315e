-- From one message to the next, and to the end.
use Rattle.std.specs.Prelude.{◌≡◌, refl, true, List, ◌++◌, ℕ, suc, ◌+◌, ◌-◌, ◌≤◌, ◌<◌, length, take, drop}
use Rattle.std.proofs.Common.{sym, ◌∙◌, ap, ap₂, subst, arith, length-drop, drop_of_length-le, drop-drop, take_all}
use Rattle.model.specs.Layout.{image_size}
use Rattle.model.specs.Program.{printed_line, last_line, bad_cut}
use Rattle.program_decimal.specs.Puts.{Puts}
use Rattle.program_decimal.specs.Ahead.{Ahead, ahead_all, ahead_next, ahead_done}
use Rattle.listing_lines.specs.Rooms.{line_room, last_room}
use Rattle.listing_cut.specs.Cut.{RightCut}
use Rattle.listing_message.specs.Outcome.{answered, answer_line, Listed}
use Rattle.listing_walk.specs.Lines.{lines, room_for}
use Rattle.listing_walk.specs.LinesLaws.{lines_end, lines_wrong, lines_next, lines_few}
use Rattle.listing_walk.specs.Walked.{Walked}

-- the lines from a message on, in the code's terms
line_and_rest : (input image : List ℕ) (number from size : ℕ) → from < length input → RightCut (drop from input) size
    → lines number image (drop from input)
    ≡ answer_line number (answered image (take (from + size - from) (drop from input)))
    ++ lines (number + 1) (answered image (take (from + size - from) (drop from input))).image (drop (from + size) input)
line_and_rest input image number from size h c =
    lines_next number image rest (omega (arith, length-drop from input)) c.right
    ∙ ap (λ (s : ℕ). first s ++ lines (suc number) (answered image (take s rest)).image (drop s rest)) (sym c.named)
    ∙ ap₂ (λ (n : ℕ) (l : List ℕ). first size ++ lines n (answered image (take size rest)).image l) {x = suc number} {y = number + 1} (omega arith) (drop-drop size from input)
    ∙ ap (λ (s : ℕ). first s ++ lines (number + 1) (answered image (take s rest)).image (drop (from + size) input)) {x = size} {y = from + size - from} (omega arith)
  where
    rest : List ℕ
    rest = drop from input

    first : ℕ → List ℕ
    first s = answer_line number (answered image (take s rest))

-- the rest of the input as the code lends it
pub rest_is : (input : List ℕ) (from : ℕ) → take (length input - from) (drop from input) ≡ drop from input
rest_is input from = take_all (length input - from) (drop from input) (omega (arith, length-drop from input))

pub walk_begin : (input image out : List ℕ) → length image ≡ image_size → room_for (length input) ≤ length out → Walked input image out image out 1 0 0
walk_begin input image out h k = record {
  inside = omega arith;
  counted = omega arith;
  room = omega arith;
  image_size_lem = h;
  out_size = refl;
  ahead = ahead_all (lines 1 image input) out 0;
}

module _ {input begun entry image out : List ℕ} {number from at : ℕ} (w : Walked input begun entry image out number from at) where
  pub walk_on : {size r : ℕ} {image_exit out-exit : List ℕ} → from < length input → RightCut (drop from input) size
      → Listed image (take (from + size - from) (drop from input)) out at number r image_exit out-exit → length image_exit ≡ length image → length out-exit ≡ length out
      → Walked input begun entry image_exit out-exit (number + 1) (from + size) r
  walk_on {size} {r} {image_exit} {out-exit} h c l same-image same_out = record {
    inside = omega (arith, c.inside, length-drop from input);
    counted = omega (arith, c.short, w.counted);
    room = omega (arith, c.short, c.inside, length-drop from input, w.room, l.line.end, l.line.few);
    image_size_lem = same-image ∙ w.image_size_lem;
    out_size = same_out ∙ w.out_size;
    ahead =
        subst (λ (i : List ℕ). Ahead (lines 1 begun input) entry 0 out-exit r (lines (number + 1) i (drop (from + size) input))) (sym l.image_after)
        (ahead_next (omega (arith, w.room))
        (subst (Ahead (lines 1 begun input) entry 0 out at) (line_and_rest input image number from size h c) w.ahead)
        l.line);
  }

  pub walk_wrong : {r : ℕ} {exit : List ℕ} → from < length input → bad_cut (drop from input) ≡ true
      → Puts out at (line_room + last_room) (printed_line number 3 0 0 ++ last_line image) r exit → Puts entry 0 (room_for (length input)) (lines 1 begun input) r exit
  walk_wrong h e p =
      ahead_done (lines_few 1 begun input)
      (subst (Ahead (lines 1 begun input) entry 0 out at) (lines_wrong number image (drop from input) (omega (arith, length-drop from input)) e) w.ahead)
      p

  pub walk_end : {r : ℕ} {exit : List ℕ} → length input ≤ from → Puts out at last_room (last_line image) r exit
      → Puts entry 0 (room_for (length input)) (lines 1 begun input) r exit
  walk_end h p =
      ahead_done (lines_few 1 begun input)
      (subst (Ahead (lines 1 begun input) entry 0 out at) (ap (lines number image) (drop_of_length-le input {i = from} h) ∙ lines_end number image) w.ahead)
      p
