-- Lower sequences stand before what is left and higher ones behind it, so that the sequence is found or missing.
use Rattle.std.proofs.Common.{◌≡◌, subst, Bool, true, false, List, map, ℕ, ◌+◌, ◌-◌, ◌/◌, ◌≤◌, ◌<◌, length, get_or, eqb, ltb, sym, ◌∙◌, ap, arith, eqb-true}
use Rattle.std.proofs.lemmas.List.{length-map}
use Rattle.std.proofs.Math.ListN.{get_or-map}
use Rattle.message_sequence.specs.declared.Sequence.{Sequence}
use Rattle.message_sequence.specs.Sequence.{sequence_number}
use Rattle.message_sequence.specs.SearchLaws.{Narrows, middle, narrows_first, narrows_up, narrows_down}
use Rattle.set_needs.specs.Names.{missing, index_of, Searchable}
use Rattle.set_needs.specs.IndexLaws.{index_here, index_none}

-- where an index is past the end, its sequence counts as this one
abbrev nought : Sequence
nought = record { high = 0; low = 0 }

abbrev names : List Sequence → List ℕ
names q = map sequence_number q

pub record Halving (q : List Sequence) (s first last : ℕ) : Type 0 where
  pub narrows : Narrows (λ k. get_or (names q) k 0) (length q) s first last
  pub searchable : Searchable q

pub halving_all : (q : List Sequence) (s : ℕ) → Searchable q → Halving q s 0 (length q)
halving_all q s h = record { narrows = narrows_first (λ k. get_or (names q) k 0) (length q) s; searchable = h }

module _ (q : List Sequence) (s first last : ℕ) (h : Halving q s first last) where
  ascends : (i j : ℕ) → i < j → j < length q → get_or (names q) i 0 < get_or (names q) j 0
  ascends i j p k = h.searchable.ascends i j p (omega (arith, length-map q sequence_number))

  module _ (left : first < last) (m : ℕ) (at : m ≡ first + (last - first) / 2) (same : Bool) (e : same ≡ eqb (sequence_number (get_or q m nought)) s) where
    name : get_or (names q) (middle first last) 0 ≡ sequence_number (get_or q m nought)
    name = ap (λ (k : ℕ). get_or (names q) k 0) (sym at) ∙ get_or-map sequence_number q m nought

    pub halving_found : same ≡ true → m ≡ index_of (names q) s
    halving_found t =
        at ∙ index_here (names q) h.searchable.ascends s (middle first last) (omega (arith, length-map q sequence_number, h.narrows.inside))
        (name ∙ eqb-true (sequence_number (get_or q m nought)) s (sym e ∙ t))

    module _ (t : same ≡ false) (lower : Bool) (f : lower ≡ ltb (sequence_number (get_or q m nought)) s) where
      pub halving_up : lower ≡ true → Halving q s (m + 1) last
      halving_up u = record {
        narrows =
            subst (λ (k : ℕ). Narrows (λ i. get_or (names q) i 0) (length q) s (k + 1) last) (sym at)
            (narrows_up h.narrows ascends left name f u);
        searchable = h.searchable;
      }

      pub halving_down : lower ≡ false → Halving q s first m
      halving_down u = record {
        narrows =
            subst (λ (k : ℕ). Narrows (λ i. get_or (names q) i 0) (length q) s first k) (sym at)
            (narrows_down h.narrows ascends left name f u e t);
        searchable = h.searchable;
      }

  pub halving_done : last ≤ first → missing ≡ index_of (names q) s
  halving_done d =
      index_none (names q) s first h.narrows.before (λ k p u. h.narrows.after k (omega (arith, h.narrows.ordered)) (omega (arith, length-map q sequence_number)))

pub ruleset halving = (halving_all, halving_found, halving_up, halving_down, halving_done)
