-- Marks by index say of a delta what the definitions say by sequence; and dependencies are found one after the other.
use Rattle.std.specs.Prelude.{◌≡◌, refl, Bool, true, false, ◌&&◌, ◌||◌, List, [], ◌∷◌, ◌++◌, map, ℕ, ◌≤◌, ◌<◌, length, get_or, eqb}
use Rattle.std.proofs.Math.Path.{sym}
use Rattle.std.proofs.Common.{◌∙◌, ap, ap₂, ⊎_elim, arith}
use Rattle.std.proofs.Math.Bool.{not, or_assoc}
use mathlib.Core.List.Memᴰ
use Rattle.std.proofs.lemmas.List.{length-map}
use Rattle.model.specs.Lists.{has, some?}
use Rattle.model.specs.Layout.{capacity}
use Rattle.model.specs.Bytes.{join}
use Rattle.model.specs.Message.{Message, sequence_of, predecessor_of}
use Rattle.model.specs.Order.{State, RightSet, sequences_of, needs, log_of}
use Rattle.laws_order.specs.TestLaws.{same_eqb}
use Rattle.set_table.specs.Table.{deltas_at}
use Rattle.set_table.specs.Places.{AllBelow}
use Rattle.set_needs.specs.Names.{Ascends, index_of}
use Rattle.set_needs.specs.IndexLaws.{index_cases, index_here}
use Rattle.set_needs.specs.NameLaws.{sequence_at, set_ascends}
use Rattle.set_needs.specs.Rows.{row_in, RowsRight}
use Rattle.compose_dependencies.specs.Unneeded.{chosen}

has_append : (s : ℕ) (l k : List ℕ) → has s (l ++ k) ≡ has s l || has s k
has_append s [] k = refl
has_append s (x ∷ l) k = ap (λ (b : Bool). eqb s x || b) (has_append s l k) ∙ sym (or_assoc (eqb s x) (has s l) (has s k))

-- ---- by index and by sequence
module _ (names : List ℕ) (ascends : Ascends names) (few : length names ≤ capacity) (i : ℕ) (inside : i < length names) where
  same_name : (s : ℕ) → eqb i (index_of names s) ≡ eqb (get_or names i 0) s
  same_name s = same_eqb i (index_of names s) (get_or names i 0) s (λ e. ⊎_elim
      (λ r. let z : ⊥ = omega (arith, r.0) in absurd z)
      (λ r. ap (λ (k : ℕ). get_or names k 0) (e ∙ r.3) ∙ r.2)
      (index_cases names s)) (index_here names ascends s i inside)

  -- an index is among those of sequences exactly if its sequence is among them
  has_named : (ss : List ℕ) → has i (map (index_of names) ss) ≡ has (get_or names i 0) ss
  has_named [] = refl
  has_named (s ∷ ss) = ap₂ ◌||◌ (same_name s) (has_named ss)

module _ (S : State) (right : RightSet S) (i : ℕ) (inside : i < length S.deltas) where
  abbrev names : List ℕ
  names = sequences_of S.deltas

  abbrev own : ℕ
  own = get_or (sequences_of S.deltas) i 0

  by_name : (ss : List ℕ) → has i (map (index_of names) ss) ≡ has own ss
  by_name = has_named names (set_ascends S.deltas right.ascends) (omega (arith, length-map S.deltas sequence_of, right.fits)) i (omega (arith, length-map S.deltas sequence_of))

  -- places are the indices of their sequences
  places_named : (places : List ℕ) → AllBelow (length S.deltas) places → map (index_of names) (sequences_of (deltas_at S.deltas places)) ≡ places
  places_named [] h = refl
  places_named (p ∷ places) h =
      ap₂ ◌∷◌
      (sym (index_here names (set_ascends S.deltas right.ascends) (sequence_of (get_or S.deltas p [])) p (omega (arith, length-map S.deltas sequence_of, h p (Memᴰ.head refl))) (sequence_at S.deltas p)))
      (places_named places (λ j k. h j (Memᴰ.tail k)))

  pub logged_is : (places : List ℕ) → AllBelow (length S.deltas) places → deltas_at S.deltas places ≡ log_of S → has i places ≡ has own (sequences_of (log_of S))
  logged_is places h e = ap (has i) (sym (places_named places h)) ∙ by_name (sequences_of (deltas_at S.deltas places)) ∙ ap (λ (l : List Message). has own (sequences_of l)) e

  module _ (rows counts : List ℕ) (filled : RowsRight S rows counts) where
    needed_by : (places : List ℕ) → AllBelow (length S.deltas) places → has i (join (map (row_in rows counts) places)) ≡ some? (λ m. has own (needs S m)) (deltas_at S.deltas places)
    needed_by [] h = refl
    needed_by (p ∷ places) h =
        has_append i (row_in rows counts p) (join (map (row_in rows counts) places))
        ∙ ap₂ ◌||◌ (ap (has i) (filled.row p (h p (Memᴰ.head refl))) ∙ by_name (needs S (get_or S.deltas p []))) (needed_by places (λ j k. h j (Memᴰ.tail k)))

    pub needed_is : (places : List ℕ) → AllBelow (length S.deltas) places → deltas_at S.deltas places ≡ log_of S
        → has i (join (map (row_in rows counts) places)) ≡ some? (λ m. has own (needs S m)) (log_of S)
    needed_is places h e = needed_by places h ∙ ap (some? (λ m. has own (needs S m))) e

-- ---- what decides whether a delta is depended on
module _ (S : State) (s d : ℕ) where
  pub not_logged : has d (sequences_of (log_of S)) ≡ false → false ≡ chosen S s d
  unfolding chosen
  not_logged e = sym (ap (λ (b : Bool). b && not (some? (λ m. has d (needs S m)) (log_of S)) && not (has d (predecessor_of s))) e)

  pub is_needed : has d (sequences_of (log_of S)) ≡ true → some? (λ m. has d (needs S m)) (log_of S) ≡ true → false ≡ chosen S s d
  unfolding chosen
  is_needed l e = sym (ap₂ (λ (a b : Bool). a && not b && not (has d (predecessor_of s))) l e)

  pub not_needed : has d (sequences_of (log_of S)) ≡ true → some? (λ m. has d (needs S m)) (log_of S) ≡ false → not (has d (predecessor_of s)) ≡ chosen S s d
  unfolding chosen
  not_needed l e = sym (ap₂ (λ (a b : Bool). a && not b && not (has d (predecessor_of s))) l e)
