-- Where in a text a sequence stands: its characters, the comma behind them, and its bytes among those that are read.
use Rattle.std.specs.Prelude.{◌≡◌, List, [], ◌∷◌, ◌++◌, ℕ, suc, ◌+◌, ◌*◌, ◌/◌, ◌≤◌, ◌<◌, T, length, take, drop, get_or}
use Rattle.std.proofs.Common.{sym, ◌∙◌, ap, subst, arith, length-drop, length-take-le, take_at, drop_at}
use Rattle.model.specs.Lists.{every, same}
use Rattle.model.specs.Layout.{sequence_size, characters_size, text_part_size}
use Rattle.model.specs.Text.{comma, is_digit, characters_of, bytes_in, sequence_parts, text_of, text_parts, sequence_in, sequence_bytes_in, text_part_right}
use Rattle.laws_order.specs.ListLaws.{get_d_∈, get_d_map}
use Rattle.laws_order.specs.TestLaws.{and_l}
use Rattle.laws_wire.specs.BytesLaws.{length_parts, parts_at}
use Rattle.laws_text.specs.DigitLaws.{length_characters}
use Rattle.laws_text.specs.PartLaws.{characters_are, behind_is, comma_there}
use Rattle.laws_text.specs.TextLaws.{text_part_of, Sequences, text_length, text_parts_are, Text, read_length, read_parts}

-- ---- in a text that is written
module _ (b : List ℕ) (s : Sequences b (length b / sequence_size)) (k : ℕ) (h : k < length b / sequence_size) where
  abbrev sequence : List ℕ
  sequence = take sequence_size (drop (sequence_size * k) b)

  inside : text_part_size * k + characters_size ≤ length (text_of b)
  inside = omega (arith, text_length b s)

  sequence_is : get_or (sequence_parts b) k [] ≡ sequence
  sequence_is = parts_at (length b / sequence_size) sequence_size b k h

  sequence_sized : length (characters_of sequence) ≡ characters_size
  sequence_sized =
      length_characters sequence ∙ omega (arith, length-take-le sequence_size (drop (sequence_size * k) b) (omega (arith, length-drop (sequence_size * k) b, s.whole)))

  part_is : take text_part_size (drop (text_part_size * k) (text_of b ++ comma ∷ [])) ≡ text_part_of sequence
  part_is =
      sym (parts_at (suc (length (text_of b)) / text_part_size) text_part_size (text_of b ++ comma ∷ []) k (omega (arith, text_length b s)))
      ∙ ap (λ (l : List (List ℕ)). get_or l k []) (text_parts_are b s)
      ∙ get_d_map text_part_of (sequence_parts b) k [] [] (omega (arith, length_parts (length b / sequence_size) sequence_size b))
      ∙ ap text_part_of sequence_is

  pub characters_at : take characters_size (drop (text_part_size * k) (text_of b)) ≡ characters_of sequence
  characters_at =
      sym (characters_are (text_of b) (text_part_size * k) inside) ∙ ap (take characters_size) part_is
      ∙ take_at (characters_of sequence) (comma ∷ []) characters_size sequence_sized

  pub comma_at : text_part_size * k + characters_size < length (text_of b) → get_or (text_of b) (text_part_size * k + characters_size) 0 ≡ comma
  comma_at i =
      sym (comma_there (text_of b) (text_part_size * k) inside i)
      ∙ ap (λ (l : List ℕ). get_or l 0 0) (sym (behind_is (text_of b) (text_part_size * k) inside) ∙ ap (drop characters_size) part_is ∙ drop_at (characters_of sequence) (comma ∷ []) characters_size sequence_sized)

-- ---- in a text that is read
module _ (t : List ℕ) (x : Text t (suc (length t) / text_part_size)) (k : ℕ) (h : k < suc (length t) / text_part_size) where
  abbrev count : ℕ
  count = suc (length t) / text_part_size

  within : text_part_size * k + characters_size ≤ length t
  within = omega (arith, x.whole)

  found_is : get_or (text_parts t) k [] ≡ take text_part_size (drop (text_part_size * k) (t ++ comma ∷ []))
  found_is = parts_at count text_part_size (t ++ comma ∷ []) k h

  pub digits_at : T (every is_digit (take characters_size (drop (text_part_size * k) t)))
  digits_at =
      let here = get_or (text_parts t) k [] in
      let right : T (text_part_right here) = x.parts_right here (get_d_∈ (text_parts t) k [] (omega (arith, length_parts count text_part_size (t ++ comma ∷ [])))) in
      subst (λ (l : List ℕ). T (every is_digit l)) (ap (take characters_size) found_is ∙ characters_are t (text_part_size * k) within)
      (and_l (every is_digit (take characters_size here)) (same (drop characters_size here) (comma ∷ [])) right)

  pub bytes_at : take sequence_size (drop (sequence_size * k) (sequence_bytes_in t)) ≡ bytes_in (take characters_size (drop (text_part_size * k) t))
  bytes_at =
      sym (parts_at (length (sequence_bytes_in t) / sequence_size) sequence_size (sequence_bytes_in t) k (omega (arith, read_length t x)))
      ∙ ap (λ (l : List (List ℕ)). get_or l k []) (read_parts t x)
      ∙ get_d_map sequence_in (text_parts t) k [] [] (omega (arith, length_parts count text_part_size (t ++ comma ∷ [])))
      ∙ ap sequence_in found_is ∙ ap bytes_in (characters_are t (text_part_size * k) within)
