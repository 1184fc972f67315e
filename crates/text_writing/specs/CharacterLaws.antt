-- The two characters of a byte, by the bytes around it; and two characters more.
use Rattle.std.specs.Prelude.{◌≡◌, List, ℕ, suc, ◌+◌, ◌*◌, ◌/◌, ◌%◌, ◌≤◌, ◌<◌, length, set, take, drop, get_or}
use Rattle.std.proofs.Common.{sym, ◌∙◌, ap, ap₂, arith, length-drop, length-take-le}
use Rattle.std.proofs.Math.Seq.{paste, paste-suc}
use Rattle.model.specs.Layout.{sequence_size, characters_size}
use Rattle.model.specs.Text.{character_of, characters_of}
use Rattle.laws_order.specs.ListLaws.{get_d_part}
use Rattle.laws_text.specs.DigitLaws.{length_characters, high_at, low_at}

module _ (sequences : List ℕ) (from : ℕ) (inside : from + sequence_size ≤ length sequences) where
  abbrev sequence : List ℕ
  sequence = take sequence_size (drop from sequences)

  sized : length sequence ≡ sequence_size
  sized = length-take-le sequence_size (drop from sequences) (omega (arith, length-drop from sequences))

  pub characters_sized : length (characters_of sequence) ≡ characters_size
  characters_sized = length_characters sequence ∙ omega (arith, sized)

  value_is : (k : ℕ) → k < sequence_size → get_or sequence k 0 ≡ get_or sequences (from + k) 0
  value_is k h = get_d_part sequences from sequence_size k 0 h

  high_is : (k : ℕ) → k < sequence_size → character_of (get_or sequences (from + k) 0 / 16) ≡ get_or (characters_of sequence) (2 * k) 0
  high_is k h = ap (λ (v : ℕ). character_of (v / 16)) (sym (value_is k h)) ∙ sym (high_at sequence k (omega (arith, sized)))

  low_is : (k : ℕ) → k < sequence_size → character_of (get_or sequences (from + k) 0 % 16) ≡ get_or (characters_of sequence) (2 * k + 1) 0
  low_is k h = ap (λ (v : ℕ). character_of (v % 16)) (sym (value_is k h)) ∙ sym (low_at sequence k (omega (arith, sized)))

  -- both put behind those that are there
  module _ (text : List ℕ) (at : ℕ) (room : at + characters_size ≤ length text) (k : ℕ) (h : k < sequence_size) where
    pub two_more : (high low : ℕ) → high ≡ character_of (get_or sequences (from + k) 0 / 16) → low ≡ character_of (get_or sequences (from + k) 0 % 16)
        → set (set (paste text at (characters_of sequence) (2 * k)) (at + 2 * k) high) (at + 2 * k + 1) low ≡ paste text at (characters_of sequence) (2 * (k + 1))
    two_more high low e f =
        ap₂ (λ (x y : ℕ). set (set (paste text at (characters_of sequence) (2 * k)) (at + 2 * k) x) (at + 2 * k + 1) y) (e ∙ high_is k h) (f ∙ low_is k h)
        ∙ ap (λ (l : List ℕ). set l (at + 2 * k + 1) (get_or (characters_of sequence) (2 * k + 1) 0)) (paste-suc text at (characters_of sequence) (2 * k) 0 (omega arith) (omega (arith, characters_sized)))
        ∙ ap₂ (λ (i j : ℕ). set (paste text at (characters_of sequence) i) j (get_or (characters_of sequence) (2 * k + 1) 0)) {x = suc (2 * k)} {y = 2 * k + 1} {u = at + 2 * k + 1} {v = at + (2 * k + 1)} (omega arith) (omega arith)
        ∙ paste-suc text at (characters_of sequence) (2 * k + 1) 0 (omega arith) (omega (arith, characters_sized))
        ∙ ap (paste text at (characters_of sequence)) {x = suc (2 * k + 1)} {y = 2 * (k + 1)} (omega arith)
