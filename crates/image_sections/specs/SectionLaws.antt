-- The sections of an image, pasted one by one: its used bytes. With zeros to the end: the image.
use Rattle.std.specs.Prelude.{◌≡◌, refl, ℕ, ◌+◌, ◌-◌, ◌≤◌, ℤ, length, take, drop, replicate}
use Rattle.std.proofs.Common.{sym, ◌∙◌, ap₂, arith, length-append, length-drop, take_at}
use Rattle.std.proofs.Math.Path.{ap}
use mathlib.Core.List.{List, [], ◌∷◌, ◌++◌, append_assoc}
use Rattle.std.proofs.Math.Seq.{paste}
use Rattle.model.specs.Bytes.{join}
use Rattle.model.specs.Layout.{values_size, image_size, setpoints_start, base_start}
use Rattle.model.specs.Message.{Message}
use Rattle.model.specs.Order.{State, log_of, held_of}
use Rattle.model.specs.Setpoints.{setpoints_of}
use Rattle.model.specs.Image.{messages_start, messages_of, values_of, base_of, floors_of, header_of, used_of, image_of, Valid}
use Rattle.laws_state.specs.ImageLaws.{front_of, front_is, length_header, length_values, messages_start_lem, used_front, used_length, messages_room}
use Rattle.setpoints_values.specs.Words.{words_of}
use Rattle.set_table.specs.Table.{deltas_of, deltas_at, set_in}
use Rattle.image_sections.specs.LogPlaces.{AllPlaces}
use Rattle.image_sections.specs.Sections.{header_with, origin_bytes}
use Rattle.image_sections.specs.HeldLaws.{others_held}
use Rattle.image_header.specs.Pieces.{pasted, Copied, UsedWritten}
use Rattle.image_header.specs.PieceLaws.{length_pasted, order_pasted, front_pasted}

-- ---- the header's numbers are those of the state
pub header_is : (S : State) {log held start used : ℕ} → log ≡ length (log_of S) → held ≡ length (held_of S) → start ≡ messages_start S → used ≡ start + length (messages_of S)
    → header_with S.origin log held start used ≡ header_of S
unfolding header_of
header_is S {log} {held} {start} {used} el eh es eu =
    ap₂ (λ (x y : ℕ). header_with S.origin x y start used) el eh
    ∙ ap₂ (header_with S.origin (length (log_of S)) (length (held_of S))) es (eu ∙ ap (λ (n : ℕ). n + length (messages_of S)) es)

-- ---- the log's messages, and the held ones behind them
pub messages_are : (pool starts places others : List ℕ) → AllPlaces pool starts places others
    → join (deltas_at (deltas_of pool starts) places) ++ join (deltas_at (deltas_of pool starts) others) ≡ messages_of (set_in pool starts)
unfolding messages_of
messages_are pool starts places others a =
    ap₂ (λ (x y : List Message). join x ++ join y) a.logged.log (ap (deltas_at (deltas_of pool starts)) a.held ∙ others_held pool starts places a.logged)

-- ---- the values' words are those of the state
pub values_are : (S : State) → Valid S → (d : List ℕ) (at : ℕ) {values : List ℤ} → values ≡ setpoints_of S → paste d at (words_of values) values_size ≡ pasted d at (values_of S)
unfolding values_of
values_are S valid d at e = ap (λ (v : List ℤ). paste d at (words_of v) values_size) e ∙ ap (paste d at (words_of (setpoints_of S))) (sym (length_values S valid))

-- ---- the messages, then the sections before them: the used bytes
module _ (S : State) (valid : Valid S) {d behind headed valued whole : List ℕ} {used : ℕ} (room : image_size ≤ length d)
    (messages : Copied d (messages_start S) (messages_of S) behind used) (header : headed ≡ pasted behind 0 (header_of S))
    (values : valued ≡ pasted headed setpoints_start (values_of S)) (origin : whole ≡ pasted valued base_start (origin_bytes S.origin)) where
  length_behind : length behind ≡ length d
  length_behind = ap length messages.bytes ∙ length_pasted d (messages_start S) (messages_of S) (omega (arith, messages_room S valid))

  past_header : setpoints_start ≡ 0 + length (header_of S)
  past_header = omega (arith, length_header S)

  past_values : base_start ≡ 0 + length (header_of S) + length (values_of S)
  past_values = omega (arith, length_header S, length_values S valid)

  -- the sections before the messages, base values and floors as one piece
  in-front : join (header_of S ∷ values_of S ∷ origin_bytes S.origin ∷ []) ≡ join (front_of S)
  unfolding base_of floors_of
  in-front =
      ap (λ (l : List ℕ). header_of S ++ (values_of S ++ l)) (append_assoc (base_of S) (floors_of S) [])
      ∙ ap join (sym (front_is S))

  front : whole ≡ pasted behind 0 (join (front_of S))
  front =
      origin ∙ ap₂ (λ (b : List ℕ) (n : ℕ). pasted b n (origin_bytes S.origin))
      (values ∙ ap₂ (λ (b : List ℕ) (n : ℕ). pasted b n (values_of S)) header past_header) past_values
      ∙ order_pasted behind 0 (header_of S ∷ values_of S ∷ origin_bytes S.origin ∷ [])
      (omega (arith, ap length in-front, messages_start_lem S valid, messages_room S valid, length_behind))
      ∙ ap (pasted behind 0) in-front

  pub used_written : UsedWritten S d whole used
  used_written = record {
    bytes = front ∙ ap (λ (b : List ℕ). pasted b 0 (join (front_of S))) messages.bytes
        ∙ front_pasted d (join (front_of S)) (messages_of S) (messages_start S) (messages_start_lem S valid) (omega (arith, messages_room S valid))
        ∙ ap₂ (λ (u : List ℕ) (n : ℕ). u ++ drop n d) (sym (used_front S)) (sym (used_length S valid));
    end = messages.end ∙ sym (used_length S valid);
  }

-- ---- the used bytes, and zeros to the end: the image
pub used_cleared : (S : State) {d written out : List ℕ} {used : ℕ} → length d ≡ image_size → UsedWritten S d written used
    → out ≡ take used written ++ replicate (length written - used) 0 → length (used_of S) ≤ image_size → out ≡ image_of S
unfolding image_of
used_cleared S {d} {written} {out} {used} size w zeros fits =
    zeros ∙ ap₂ (λ (b : List ℕ) (n : ℕ). b ++ replicate n 0)
    (ap₂ take w.end w.bytes ∙ take_at (used_of S) (drop (length (used_of S)) d) (length (used_of S)) refl)
    (ap₂ (λ (m n : ℕ). m - n) (ap length w.bytes ∙ length-append (used_of S) (drop (length (used_of S)) d) ∙ ap (λ (n : ℕ). length (used_of S) + n) (length-drop (length (used_of S)) d) ∙ omega arith) w.end)
