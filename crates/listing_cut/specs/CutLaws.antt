-- A cut is wrong by any of four tests, and else right.
use Rattle.std.specs.Prelude.{◌≡◌, refl, Bool, true, false, ◌||◌, List, ℕ, ◌≤◌, ◌<◌, length, T, ltb}
use Rattle.std.proofs.Common.{subst}
use borrow.Author.Tests.{lt-ltb, le-ltb, ltb-false}
use Rattle.model.specs.Layout.{shortest_cut, longest_cut}
use Rattle.model.specs.Program.{bad_cut}
use Rattle.listing_cut.specs.Cut.{size_of, RightCut}

module _ (rest : List ℕ) where
  pub cut_no_length : length rest < 6 → bad_cut rest ≡ true
  unfolding bad_cut
  cut_no_length h = rw (lt-ltb (length rest) 6)

  pub cut_small : 6 ≤ length rest → size_of rest < shortest_cut → bad_cut rest ≡ true
  unfolding bad_cut
  cut_small h k = rw (le-ltb (length rest) 6, lt-ltb (size_of rest) shortest_cut)

  pub cut_large : 6 ≤ length rest → shortest_cut ≤ size_of rest → longest_cut < size_of rest → bad_cut rest ≡ true
  unfolding bad_cut
  cut_large h k l = rw (le-ltb (length rest) 6, le-ltb (size_of rest) shortest_cut, lt-ltb longest_cut (size_of rest))

  pub cut_past : 6 ≤ length rest → shortest_cut ≤ size_of rest → size_of rest ≤ longest_cut → length rest < size_of rest → bad_cut rest ≡ true
  unfolding bad_cut
  cut_past h k l m = rw (le-ltb (length rest) 6, le-ltb (size_of rest) shortest_cut, le-ltb longest_cut (size_of rest), lt-ltb (length rest) (size_of rest))

  pub cut_right : 6 ≤ length rest → shortest_cut ≤ size_of rest → size_of rest ≤ longest_cut → size_of rest ≤ length rest → bad_cut rest ≡ false
  unfolding bad_cut
  cut_right h k l m = rw (le-ltb (length rest) 6, le-ltb (size_of rest) shortest_cut, le-ltb longest_cut (size_of rest), le-ltb (length rest) (size_of rest))

none_of : (a b c d : Bool) → a || b || c || d ≡ false → (b ≡ false) × (d ≡ false)
none_of true b c d e = absurd (subst T e tt)
none_of false true c d e = absurd (subst T e tt)
none_of false false true d e = absurd (subst T e tt)
none_of false false false true e = absurd (subst T e tt)
none_of false false false false e = (refl, refl)

-- what is known of a cut that is not wrong
pub cut_size : (rest : List ℕ) → bad_cut rest ≡ false → RightCut rest (size_of rest)
unfolding bad_cut
cut_size rest e =
    let tests = none_of (ltb (length rest) 6) (ltb (size_of rest) shortest_cut) (ltb longest_cut (size_of rest)) (ltb (length rest) (size_of rest)) e in
    record { named = refl; right = e; short = ltb-false (size_of rest) shortest_cut tests.0; inside = ltb-false (length rest) (size_of rest) tests.1 }
