-- What is printed is the listing of the input.
use Rattle.std.specs.Prelude.{◌≡◌, List, ℕ, take}
use Rattle.std.proofs.Common.{ap₂, subst}
use Rattle.model.specs.Layout.{input_limit}
use Rattle.model.specs.Image.{image_of}
use Rattle.model.specs.Calls.{empty_state}
use Rattle.model.specs.Program.{listing}
use Rattle.program_decimal.specs.Puts.{Puts}
use Rattle.program_decimal.specs.Front.{Prints, puts_prints}
use Rattle.listing_walk.specs.Lines.{lines}

-- the lines of what is read of an input, from no deltas on, are its listing
pub lists : (input : List ℕ) {read image entry exit : List ℕ} {k r : ℕ} → read ≡ take input_limit input → image ≡ image_of empty_state
    → Puts entry 0 k (lines 1 image read) r exit → Prints (listing input) entry r exit
unfolding lines listing
lists input {read} {image} {entry} {exit} {k} {r} e f p = subst (λ (t : List ℕ). Prints t entry r exit) is (puts_prints p)
  where
    is : lines 1 image read ≡ listing input
    is = ap₂ (λ (b l : List ℕ). lines 1 b l) f e
