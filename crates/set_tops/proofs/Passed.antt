-- The tops that a sequence passes, looked at one after the other.
use Rattle.std.proofs.Common.{◌≡◌, Bool, true, false, List, ℕ, ◌+◌, ◌*◌, ◌≤◌, ◌<◌, get_or, ltb, sym, ◌∙◌, ap, arith, ltb-true, ltb-false}
use Rattle.model.specs.Bytes.{field}
use Rattle.model.specs.Layout.{sequence_size}
use Rattle.model.specs.Message.{line_of}
use Rattle.set_tops.specs.TopsIn.{tops_in}
use Rattle.set_tops.specs.TopsLaws.{tops_length, top_at}
use Rattle.set_tops.specs.Raising.{Passes, PlaceOf}
use Rattle.set_tops.specs.RaisingLaws.{passes_none, passes_more}

module _ (s : ℕ) (b : List ℕ) (count p : ℕ) (passes : Passes s (tops_in b count) p) where
  module _ (left : p < count) (v : ℕ) (read : v ≡ field b (sequence_size * p) sequence_size) (lower : Bool) (e : lower ≡ ltb (line_of v) (line_of s)) where
    top : v ≡ get_or (tops_in b count) p 0
    top = read ∙ sym (top_at b count p left)

    pub top_passed : lower ≡ true → Passes s (tops_in b count) (p + 1)
    top_passed t =
        passes_more s (tops_in b count) p passes (omega (arith, tops_length b count))
        (omega (arith, ap line_of top, ltb-true (line_of v) (line_of s) (sym e ∙ t)))

    pub placed_here : lower ≡ false → PlaceOf s (tops_in b count) p
    placed_here t = record {
      passes = passes;
      here = λ h. omega (arith, ap line_of top, ltb-false (line_of v) (line_of s) (sym e ∙ t));
    }

  pub placed_end : count ≤ p → PlaceOf s (tops_in b count) p
  placed_end h = record { passes = passes; here = λ q. let z : ⊥ = omega (arith, tops_length b count) in absurd z }

pub ruleset passing = (passes_none, top_passed, placed_here, placed_end)
