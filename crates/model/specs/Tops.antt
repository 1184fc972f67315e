-- Tops: for some lines, each line's highest number. Floors are tops (document 02, Paper 4). A top is written as the sequence of that
-- number; tops ascend by line, and no line has two.
use Rattle.std.specs.Prelude.{Bool, cond, ◌&&◌, List, [], ◌∷◌, map, ℕ, ◌^◌, max, eqb, ltb, leb}
use Rattle.model.specs.Lists.{every, some?, ascending}
use Rattle.model.specs.Layout.{sequence_size}
use Rattle.model.specs.Message.{line_of, number_of, numbered}

-- "at or below": of the same line, and of no higher number
abbrev pub at_or_below : ℕ → ℕ → Bool
at_or_below top s = eqb (line_of s) (line_of top) && leb (number_of s) (number_of top)

-- A sequence is at or below the top of its line. On a line without a top none is.
abbrev pub covered : List ℕ → ℕ → Bool
covered tops s = some? (λ top. at_or_below top s) tops

-- "ascending", by line; "numbers of at least 1"; and each is a sequence of twelve bytes
unfoldable pub tops_right : List ℕ → Bool
tops_right tops = ascending (map line_of tops) && every numbered tops && every (λ top. ltb top (256 ^ sequence_size)) tops

-- The line of a sequence has it as its top, unless the top it has is higher.
abbrev pub raise_top : ℕ → List ℕ → List ℕ
raise_top s [] = s ∷ []
raise_top s (top ∷ l) =
    cond (ltb (line_of s) (line_of top)) (s ∷ top ∷ l) (cond (eqb (line_of s) (line_of top)) (max s top ∷ l) (top ∷ raise_top s l))

abbrev pub raise_tops : List ℕ → List ℕ → List ℕ
raise_tops [] tops = tops
raise_tops (s ∷ l) tops = raise_tops l (raise_top s tops)
