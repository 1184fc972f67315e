-- The lines one by one, and how long they are together.
use Rattle.std.specs.Prelude.{◌≡◌, Bool, true, false, ℕ, zero, suc, ◌+◌, ◌≤◌, ◌<◌, length, take, drop}
use Rattle.std.proofs.Math.Path.{refl, ap}
use Rattle.std.proofs.Common.{sym, ◌∙◌, subst, arith, length-append, length-drop}
use Rattle.std.proofs.Math.Bool.{cond}
use mathlib.Core.List.{List, [], ◌∷◌, ◌++◌}
use Rattle.model.specs.Calls.{Delivered}
use Rattle.model.specs.Program.{printed_line, last_line, bad_cut, lines_from}
use Rattle.listing_lines.specs.Rooms.{line_room}
use Rattle.listing_lines.specs.LineSizes.{line_few, last_few}
use Rattle.listing_cut.specs.Cut.{size_of}
use Rattle.listing_cut.specs.CutLaws.{cut_size}
use Rattle.listing_message.specs.Outcome.{answered, answer_line}
use Rattle.listing_walk.specs.Lines.{lines, room_for}

-- ---- the next line, by whether the cut is wrong
-- a message's delivery, and what is left behind it
abbrev next : List ℕ → List ℕ → Delivered
next image rest = answered image (take (size_of rest) rest)

abbrev behind : List ℕ → List ℕ
behind rest = drop (size_of rest) rest

-- the lines of `most` messages: one, and those behind it
one : (most n : ℕ) (image rest : List ℕ) → 0 < length rest → lines_from (suc most) n image rest
    ≡ cond (bad_cut rest) (printed_line n 3 0 0 ++ last_line image) (answer_line n (next image rest) ++ lines_from most (suc n) (next image rest).image (behind rest))
unfolding lines_from answered answer_line
one most n image [] h = let z : ⊥ = omega arith in absurd z
one most n image (x ∷ rest) h = refl

shorter : (rest : List ℕ) → bad_cut rest ≡ false → length (behind rest) + 48 ≤ length rest
shorter rest e = let c = cut_size rest e in omega (arith, c.short, c.inside, length-drop (size_of rest) rest)

-- as many messages as there are bytes are enough
module _ (n : ℕ) (image rest : List ℕ) where
  step : (m k : ℕ) → 0 < length rest
      → (bad_cut rest ≡ false → lines_from m (suc n) (next image rest).image (behind rest) ≡ lines_from k (suc n) (next image rest).image (behind rest))
      → lines_from (suc m) n image rest ≡ lines_from (suc k) n image rest
  step m k h more = one m n image rest h ∙ go (bad_cut rest) refl ∙ sym (one k n image rest h)
    where
      go : (t : Bool) → bad_cut rest ≡ t
          → cond t (printed_line n 3 0 0 ++ last_line image) (answer_line n (next image rest) ++ lines_from m (suc n) (next image rest).image (behind rest))
          ≡ cond t (printed_line n 3 0 0 ++ last_line image) (answer_line n (next image rest) ++ lines_from k (suc n) (next image rest).image (behind rest))
      go true e = refl
      go false e = ap (λ (l : List ℕ). answer_line n (next image rest) ++ l) (more e)

enough : (m k n : ℕ) (image rest : List ℕ) → length rest ≤ m → length rest ≤ k → lines_from m n image rest ≡ lines_from k n image rest
unfolding lines_from
enough zero zero n image rest h g = refl
enough zero (suc k) n image [] h g = refl
enough zero (suc k) n image (x ∷ rest) h g = let z : ⊥ = omega arith in absurd z
enough (suc m) zero n image [] h g = refl
enough (suc m) zero n image (x ∷ rest) h g = let z : ⊥ = omega arith in absurd z
enough (suc m) (suc k) n image [] h g = refl
enough (suc m) (suc k) n image (x ∷ rest) h g =
    step n image (x ∷ rest) m k (omega arith)
    (λ e. let s = shorter (x ∷ rest) e in enough m k (suc n) (next image (x ∷ rest)).image (behind (x ∷ rest)) (omega arith) (omega arith))

module _ (n : ℕ) (image : List ℕ) where
  pub lines_end : lines n image [] ≡ last_line image
  unfolding lines lines_from
  lines_end = refl

  module _ (rest : List ℕ) (h : 0 < length rest) where
    -- the lines of what is left, by whether its cut is wrong
    by_cut : lines n image rest ≡ cond (bad_cut rest) (printed_line n 3 0 0 ++ last_line image) (answer_line n (next image rest) ++ lines_from (length rest) (suc n) (next image rest).image (behind rest))
    unfolding lines
    by_cut = enough (length rest) (suc (length rest)) n image rest (omega arith) (omega arith) ∙ one (length rest) n image rest h

    pub lines_wrong : bad_cut rest ≡ true → lines n image rest ≡ printed_line n 3 0 0 ++ last_line image
    lines_wrong e =
        by_cut
        ∙ ap (λ (t : Bool). cond t (printed_line n 3 0 0 ++ last_line image) (answer_line n (next image rest) ++ lines_from (length rest) (suc n) (next image rest).image (behind rest))) e

    pub lines_next : bad_cut rest ≡ false → lines n image rest ≡ answer_line n (next image rest) ++ lines (suc n) (next image rest).image (behind rest)
    unfolding lines
    lines_next e =
        by_cut
        ∙ ap (λ (t : Bool). cond t (printed_line n 3 0 0 ++ last_line image) (answer_line n (next image rest) ++ lines_from (length rest) (suc n) (next image rest).image (behind rest))) e
        ∙ ap (λ (l : List ℕ). answer_line n (next image rest) ++ l)
        (enough (length rest) (length (behind rest)) (suc n) (next image rest).image (behind rest) (omega (arith, shorter rest e)) (omega arith))

-- ---- how long they are
line_of_few : (n : ℕ) (a : Delivered) → length (answer_line n a) ≤ line_room
unfolding answer_line
line_of_few n a = line_few n a.code a.undos a.executions

from_few : (most n : ℕ) (image rest : List ℕ) → length (lines_from most n image rest) ≤ room_for (length rest)
unfolding lines_from
from_few zero n image rest = omega (arith, last_few image)
from_few (suc most) n image [] = omega (arith, last_few image)
from_few (suc most) n image (x ∷ rest) =
    subst (λ (l : List ℕ). length l ≤ room_for (length left)) (sym (one most n image left (omega arith)))
    (go (bad_cut left) refl (from_few most (suc n) (next image left).image (behind left)))
  where
    left : List ℕ
    left = x ∷ rest

    more : List ℕ
    more = lines_from most (suc n) (next image left).image (behind left)

    go : (t : Bool) → bad_cut left ≡ t → length more ≤ room_for (length (behind left))
        → length (cond t (printed_line n 3 0 0 ++ last_line image) (answer_line n (next image left) ++ more)) ≤ room_for (length left)
    go true e h = omega (arith, length-append (printed_line n 3 0 0) (last_line image), line_few n 3 0 0, last_few image)
    go false e h = omega (arith, length-append (answer_line n (next image left)) more, line_of_few n (next image left), shorter left e)

pub lines_few : (n : ℕ) (image rest : List ℕ) → length (lines n image rest) ≤ room_for (length rest)
unfolding lines
lines_few n image rest = from_few (length rest) n image rest
