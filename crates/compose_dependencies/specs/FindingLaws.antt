-- Dependencies are found one after the other.
use Rattle.std.specs.Prelude.{◌≡◌, refl, Bool, true, false, cond, List, [], ◌∷◌, ◌++◌, map, ℕ, ◌+◌, ◌≤◌, ◌<◌, length, get_or, set, take, drop, replicate}
use Rattle.std.proofs.Common.{sym, ◌∙◌, ap, ap₂, subst, ⊎_elim, append_assoc, append-nil, arith, add-one, length-set, drop_of_length-le, drop-cons, take-suc-set}
use mathlib.Core.List.Memᴰ
use Rattle.std.proofs.lemmas.List.{map-append, length-map, length-replicate}
use Rattle.model.specs.Lists.{◌∈◌, keep}
use Rattle.model.specs.Layout.{capacity}
use Rattle.model.specs.Message.{sequence_of}
use Rattle.model.specs.Order.{State, sequences_of}
use Rattle.model.specs.Compose.{new_dependencies}
use Rattle.set_table.specs.Table.{message_from, deltas_of, set_in, Holds}
use Rattle.set_table.specs.Places.{sequence_in}
use Rattle.set_needs.specs.NameLaws.{sequence_at}
use Rattle.set_table.specs.TableLaws.{table_count}
use Rattle.compose_dependencies.specs.Unneeded.{chosen, IsDependencies, Finding}

-- ---- what a test keeps of names, one after the other
module _ (p : ℕ → Bool) (names : List ℕ) (i : ℕ) (inside : i < length names) where
  keep_step : keep p (drop i names) ≡ cond (p (get_or names i 0)) (get_or names i 0 ∷ keep p (drop (i + 1) names)) (keep p (drop (i + 1) names))
  keep_step = ap (keep p) (drop-cons names i 0 inside) ∙ ap (λ (n : ℕ). cond (p (get_or names i 0)) (get_or names i 0 ∷ keep p (drop n names)) (keep p (drop n names))) (sym (add-one i))

  keep_more : p (get_or names i 0) ≡ true → (found : List ℕ) → found ++ keep p (drop i names) ≡ found ++ (get_or names i 0 ∷ []) ++ keep p (drop (i + 1) names)
  keep_more e found =
      ap (λ (l : List ℕ). found ++ l) (keep_step ∙ ap (λ (b : Bool). cond b (get_or names i 0 ∷ keep p (drop (i + 1) names)) (keep p (drop (i + 1) names))) e)
      ∙ sym (append_assoc found (get_or names i 0 ∷ []) (keep p (drop (i + 1) names)))

  keep_less : p (get_or names i 0) ≡ false → keep p (drop i names) ≡ keep p (drop (i + 1) names)
  keep_less e = keep_step ∙ ap (λ (b : Bool). cond b (get_or names i 0 ∷ keep p (drop (i + 1) names)) (keep p (drop (i + 1) names))) e

keep_none : (p : ℕ → Bool) (names : List ℕ) (i : ℕ) (found : List ℕ) → length names ≤ i → found ++ keep p (drop i names) ≡ found
keep_none p names i found h = ap (λ (l : List ℕ). found ++ keep p l) (drop_of_length-le names h) ∙ append-nil found

dependencies_are : (S : State) (s : ℕ) → new_dependencies S s ≡ keep (chosen S s) (sequences_of S.deltas)
unfolding new_dependencies chosen
dependencies_are S s = refl

-- ---- one more delta is looked at
module _ (pool starts : List ℕ) (holds : Holds pool starts) (s : ℕ) where
  abbrev S : State
  S = set_in pool starts

  abbrev names : List ℕ
  names = sequences_of (deltas_of pool starts)

  count : length (sequences_of (deltas_of pool starts)) ≡ length starts
  count = length-map (deltas_of pool starts) sequence_of ∙ length-map starts (message_from pool)

  pub finding_none : Finding pool starts s (replicate capacity 0) 0 0
  finding_none = record {
    size = length-replicate {A = ℕ} capacity 0;
    few = omega arith;
    upto = omega arith;
    names = sym (dependencies_are S s);
    inside = λ i k. absurd (Memᴰ.not-nil k);
  }

  module _ (found : List ℕ) (n i : ℕ) (f : Finding pool starts s found n i) where
    module _ (more : i < length starts) where
      test_at : {t : Bool} → chosen S s (sequence_in pool starts i) ≡ t → chosen S s (get_or names i 0) ≡ t
      test_at e = ap (chosen S s) (sequence_at (deltas_of pool starts) i) ∙ e

      here : i < length names
      here = omega (arith, count)

      room : n < length found
      room = omega (arith, f.few, f.size, table_count pool starts holds)

      found_more : take (n + 1) (set found n i) ≡ take n found ++ (i ∷ [])
      found_more = ap (λ (k : ℕ). take k (set found n i)) (add-one n) ∙ take-suc-set found n i room

      pub finding_more : chosen S s (sequence_in pool starts i) ≡ true → Finding pool starts s (set found n i) (n + 1) (i + 1)
      finding_more e = record {
        size = length-set found n i ∙ f.size;
        few = omega (arith, f.few);
        upto = omega arith;
        names = ap₂ (λ (a b : List ℕ). a ++ b) (ap (map (sequence_in pool starts)) found_more ∙ map-append (sequence_in pool starts) (take n found) (i ∷ []) ∙ ap (λ (x : ℕ). map (sequence_in pool starts) (take n found) ++ (x ∷ [])) (sym (sequence_at (deltas_of pool starts) i))) refl
            ∙ sym (keep_more (chosen S s) names i here (test_at e) (map (sequence_in pool starts) (take n found))) ∙ f.names;
        inside = λ j k. ⊎_elim (λ x. f.inside j x) (λ x. omega (arith, Memᴰ.eq_of_singleton x)) (Memᴰ.append_cases (take n found) (subst (λ (l : List ℕ). j ∈ l) found_more k));
      }

      pub finding_less : chosen S s (sequence_in pool starts i) ≡ false → Finding pool starts s found n (i + 1)
      finding_less e = record {
        size = f.size;
        few = omega (arith, f.few);
        upto = omega arith;
        names = ap (λ (l : List ℕ). map (sequence_in pool starts) (take n found) ++ l) (sym (keep_less (chosen S s) names i here (test_at e))) ∙ f.names;
        inside = f.inside;
      }

    pub finding_all : length starts ≤ i → IsDependencies pool starts s (record { places = found; count = n })
    finding_all h = record {
      names = sym (keep_none (chosen S s) names i (map (sequence_in pool starts) (take n found)) (omega (arith, count))) ∙ f.names;
      inside = f.inside;
      fits = omega (arith, f.few, f.upto, table_count pool starts holds);
    }
