-- A text put down from the front: a sequence's characters more, a comma more, and all of it.
use Rattle.std.specs.Prelude.{◌≡◌, List, ℕ, suc, ◌+◌, ◌*◌, ◌/◌, ◌-◌, ◌≤◌, ◌<◌, length, set, take, drop}
use Rattle.std.proofs.Common.{sym, ◌∙◌, ap, ap₂, arith, length-append, length-drop}
use Rattle.std.proofs.Math.Seq.{paste, paste-suc}
use Rattle.model.specs.Layout.{sequence_size, characters_size, text_part_size}
use Rattle.model.specs.Text.{comma, characters_of, text_of}
use Rattle.model.specs.Calls.{written}
use Rattle.buffer_writes.specs.PasteLaws.{paste_more, front_written}
use Rattle.laws_text.specs.TextLaws.{Sequences, text_length}
use Rattle.laws_text.specs.PlaceLaws.{characters_at, comma_at}

module _ (d b : List ℕ) (s : Sequences b (length b / sequence_size)) (room : length (text_of b) ≤ length d) where
  -- the buffer with so many characters of the text
  abbrev put : ℕ → List ℕ
  put n = paste d 0 (text_of b) n

  pub characters_more : (k : ℕ) → k < length b / sequence_size
      → paste (put (text_part_size * k)) (text_part_size * k) (characters_of (take sequence_size (drop (sequence_size * k) b))) characters_size ≡ put (text_part_size * k + characters_size)
  characters_more k h =
      ap₂ (λ (at : ℕ) (l : List ℕ). paste (put (text_part_size * k)) at l characters_size) {x = text_part_size * k} {y = 0 + text_part_size * k} (omega arith) (sym (characters_at b s k h))
      ∙ paste_more d 0 (text_of b) (text_part_size * k) characters_size (omega (arith, text_length b s)) (omega (arith, text_length b s))

  pub comma_more : (k : ℕ) → k + 1 < length b / sequence_size → set (put (text_part_size * k + characters_size)) (text_part_size * k + characters_size) comma ≡ put (text_part_size * (k + 1))
  comma_more k h =
      let at : ℕ = text_part_size * k + characters_size in
      ap₂ (λ (i c : ℕ). set (put at) i c) {x = at} {y = 0 + at} (omega arith) (sym (comma_at b s k (omega arith) (omega (arith, text_length b s))))
      ∙ paste-suc d 0 (text_of b) at 0 (omega (arith, text_length b s)) (omega (arith, text_length b s))
      ∙ ap put {x = suc at} {y = text_part_size * (k + 1)} (omega arith)

  -- how many characters there are, by the last sequence
  pub size_is : text_part_size * (length b / sequence_size - 1) + characters_size ≡ length (text_of b)
  size_is = omega (arith, text_length b s, s.least)

  pub all_put : put (text_part_size * (length b / sequence_size - 1) + characters_size) ≡ written (text_of b) d
  all_put = ap put size_is ∙ front_written (text_of b) d

pub length_written : (x d : List ℕ) → length x ≤ length d → length (written x d) ≡ length d
length_written x d h = length-append x (drop (length x) d) ∙ omega (arith, length-drop (length x) d)
