-- Each test of the code is one of the definition's four, and a cut that passes them all is right.
use Rattle.std.specs.Prelude.{◌≡◌, List, ℕ, ◌≤◌, length}
use Rattle.std.proofs.Common.{arith}
use Rattle.model.specs.Layout.{shortest_cut, longest_cut}
use Rattle.listing_cut.specs.Cut.{size_of, RightCut}
use Rattle.listing_cut.specs.CutLaws.{cut_no_length, cut_small, cut_large, cut_past, cut_right}

pub cut_is_right : (rest : List ℕ) (size : ℕ) → size ≡ size_of rest
    → 6 ≤ length rest → shortest_cut ≤ size → size ≤ longest_cut → size ≤ length rest → RightCut rest size
cut_is_right rest size e h k l m = record {
  named = e;
  right = cut_right rest h (omega arith) (omega arith) (omega arith);
  short = k;
  inside = m;
}

pub ruleset cuts = (cut_no_length, cut_small, cut_large, cut_past, cut_is_right)
