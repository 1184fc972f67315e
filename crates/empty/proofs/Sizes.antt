-- Empty by the one thing that it looks at.
use Rattle.std.specs.Prelude.{◌≡◌, Bool, true, false, cond, List, ℕ, length, eqb, refl}
use Rattle.std.proofs.Common.{sym}
use Rattle.model.specs.Layout.{image_size}
use Rattle.model.specs.Image.{image_of}
use Rattle.model.specs.Calls.{empty_state, empty}
use Rattle.laws_codes.specs.Ladder.{none, fails, passes}
use Rattle.empty.specs.EmptyCases.{answered}

pub by_size : (b : List ℕ) → empty b ≡ cond (eqb (length b) image_size) (record { code = 0; image = image_of empty_state }) (record { code = 1; image = b })
by_size b = go (eqb (length b) image_size) refl
  where
    go : (t : Bool) → t ≡ eqb (length b) image_size → empty b ≡ cond t (record { code = 0; image = image_of empty_state }) (record { code = 1; image = b })
    go true e = sym (answered b (passes e none))
    go false e = sym (answered b (fails e))
