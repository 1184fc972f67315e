-- A part of a text behind which a comma is put: its characters are the text's, and so is what stands behind them, or it is that comma.
use Rattle.std.specs.Prelude.{◌≡◌, Bool, ◌&&◌, List, [], ◌∷◌, ◌++◌, ℕ, ◌+◌, ◌≤◌, ◌<◌, eqb, length, take, drop, get_or}
use Rattle.std.proofs.Common.{sym, ◌∙◌, ap, ap₂, arith, lit≤, length-append, length-take, length-drop, take_all, take-take, drop-drop, drop-cons}
use Rattle.std.proofs.Math.Bool.{and-true}
use Rattle.std.proofs.Math.ListN.{get_or-append}
use Rattle.std.proofs.lemmas.List.{drop-append-le, take-append-le, get_or_at}
use Rattle.model.specs.Lists.{every, same}
use Rattle.model.specs.Layout.{characters_size, text_part_size}
use Rattle.model.specs.Text.{comma, is_digit, text_part_right}
use Rattle.laws_wire.specs.BytesLaws.{take_drop_take}

module _ (t : List ℕ) (at : ℕ) (inside : at + characters_size ≤ length t) where
  abbrev part : List ℕ
  part = take text_part_size (drop at (t ++ comma ∷ []))

  pub characters_are : take characters_size part ≡ take characters_size (drop at t)
  characters_are =
      take-take characters_size text_part_size (drop at (t ++ comma ∷ [])) (lit≤ tt)
      ∙ ap (take characters_size) (drop-append-le at t (comma ∷ []) (omega arith))
      ∙ take-append-le characters_size (drop at t) (comma ∷ []) (omega (arith, length-drop at t))

  pub behind_is : drop characters_size part ≡ get_or (t ++ comma ∷ []) (at + characters_size) 0 ∷ []
  behind_is =
      sym (take_all 1 (drop characters_size part) (omega (arith, length-drop characters_size part, length-take text_part_size (drop at (t ++ comma ∷ [])))))
      ∙ take_drop_take text_part_size characters_size 1 (drop at (t ++ comma ∷ [])) (lit≤ tt)
      ∙ ap (take 1) (drop-drop characters_size at (t ++ comma ∷ []) ∙ drop-cons (t ++ comma ∷ []) (at + characters_size) 0 (omega (arith, length-append t (comma ∷ []))))

  pub part_is : text_part_right part ≡ every is_digit (take characters_size (drop at t)) && eqb (get_or (t ++ comma ∷ []) (at + characters_size) 0) comma
  part_is =
      ap₂ (λ (x y : List ℕ). every is_digit x && same y (comma ∷ [])) characters_are behind_is
      ∙ ap (λ (b : Bool). every is_digit (take characters_size (drop at t)) && b) (and-true (eqb (get_or (t ++ comma ∷ []) (at + characters_size) 0) comma))

  -- behind the last part stands the comma that was put there
  pub comma_put : at + characters_size ≡ length t → get_or (t ++ comma ∷ []) (at + characters_size) 0 ≡ comma
  comma_put e = get_or_at t comma [] 0 (at + characters_size) (sym e)

  -- and behind any other a character of the text
  pub comma_there : at + characters_size < length t → get_or (t ++ comma ∷ []) (at + characters_size) 0 ≡ get_or t (at + characters_size) 0
  comma_there h = get_or-append t (comma ∷ []) 0 (at + characters_size) h
