-- Two purges in turn are one of as many deltas.
use Rattle.std.specs.Prelude.{◌≡◌, refl, Bool, true, false, cond, not, ◌||◌, take, drop, eqb}
use Rattle.std.proofs.Common.{sym, ◌∙◌, ap, take-add}
use Rattle.std.proofs.Math.Path.{ap₂}
use mathlib.Core.List.{List, [], ◌∷◌, ◌++◌, map-append}
use Prim.Native.Nat.{ℕ, ◌+◌, max}
use Rattle.std.proofs.Math.IntN.{ℤ}
use Rattle.model.specs.Lists.{has, greatest}
use Rattle.model.specs.Message.{Message, sequence_of, group_of}
use Rattle.model.specs.Tops.{raise_top, raise_tops}
use Rattle.model.specs.Order.{Origin, State, holding, RightSet, sequences_of, effective_block, log_of}
use Rattle.model.specs.Setpoints.{start_values, run_log}
use Rattle.model.specs.Purge.{origin_past, without, purge_first}
use Rattle.laws_order.specs.TestLaws.{greatest_cong}
use Rattle.laws_order.specs.ListLaws.{∈_take}
use Rattle.laws_state.specs.PairLaws.{run_append}
use Rattle.laws_order.specs.MaxLaws.{max_assoc, greatest_append}
use Rattle.laws_purge.specs.PurgedBlocks.{effective_stays}
use Rattle.laws_purge.specs.PurgedState.{purge_past}
use Rattle.laws_purge.specs.PurgeLaws.{purge_log}

raised_append : (l k tops : List ℕ) → raise_tops (l ++ k) tops ≡ raise_tops k (raise_tops l tops)
raised_append [] k tops = refl
raised_append (s ∷ l) k tops = raised_append l k (raise_top s tops)

has_append : (s : ℕ) (l k : List ℕ) → has s (l ++ k) ≡ has s l || has s k
has_append s [] k = refl
has_append s (x ∷ l) k = go (eqb s x) (has_append s l k)
  where
    go : (b : Bool) → has s (l ++ k) ≡ has s l || has s k → b || has s (l ++ k) ≡ (b || has s l) || has s k
    go true e = refl
    go false e = e

-- what is none of these, and of that what is none of those
without_append : (p q l : List Message) → without q (without p l) ≡ without (p ++ q) l
without_append p q [] = refl
without_append p q (m ∷ l) =
    go (has (sequence_of m) (sequences_of p)) (without_append p q l)
    ∙ ap (λ (b : Bool). cond (not b) (m ∷ without (p ++ q) l) (without (p ++ q) l))
    (sym (ap (has (sequence_of m)) (map-append sequence_of p q) ∙ has_append (sequence_of m) (sequences_of p) (sequences_of q)))
  where
    go : (b : Bool) → without q (without p l) ≡ without (p ++ q) l
        → without q (cond (not b) (m ∷ without p l) (without p l))
        ≡ cond (not (b || has (sequence_of m) (sequences_of q))) (m ∷ without (p ++ q) l) (without (p ++ q) l)
    go true e = e
    go false e = ap (λ (k : List Message). cond (not (has (sequence_of m) (sequences_of q))) (m ∷ k) k) e

module _ (S : State) (right : RightSet S) (K J : ℕ) where
  abbrev first : List Message
  first = take K (log_of S)

  abbrev second : List Message
  second = take J (drop K (log_of S))

  -- the greatest over both
  both : (f : Message → ℕ) (o : ℕ) → max (max o (greatest f first)) (greatest f second) ≡ max o (greatest f (first ++ second))
  both f o = max_assoc o (greatest f first) (greatest f second) ∙ ap (max o) (sym (greatest_append f first second))

  blocks_stay : greatest (effective_block (purge_first K S)) second ≡ greatest (effective_block S) second
  blocks_stay = greatest_cong (effective_block (purge_first K S)) (effective_block S) second
      (λ m k. effective_stays S right K m (∈_take J (drop K (log_of S)) k))

  origin_both : origin_past (purge_first K S) second ≡ origin_past S (first ++ second)
  unfolding purge_first origin_past start_values
  origin_both =
      let O : Origin = origin_past (purge_first K S) second in
      let floors : List ℕ = raise_tops (sequences_of (first ++ second)) S.origin.floors in
      let base : List ℤ = run_log (first ++ second) (start_values S) in
      ap₂ (λ (f : List ℕ) (v : List ℤ). record { floors = f; base = v; block = O.block; group = O.group })
      (sym (ap (λ (l : List ℕ). raise_tops l S.origin.floors) (map-append sequence_of first second)
      ∙ raised_append (sequences_of first) (sequences_of second) S.origin.floors))
      (sym (run_append first second (start_values S)))
      ∙ ap₂ (λ (b g : ℕ). record { floors = floors; base = base; block = b; group = g })
      (ap (max (purge_first K S).origin.block) blocks_stay ∙ both (effective_block S) S.origin.block) (both group_of S.origin.group)

  deltas_both : without second (purge_first K S).deltas ≡ without (first ++ second) S.deltas
  unfolding purge_first
  deltas_both = without_append first second S.deltas

  pub purge_twice : purge_first J (purge_first K S) ≡ purge_first (K + J) S
  purge_twice =
      purge_past J (purge_first K S) second (ap (take J) (purge_log S right K)) ∙ ap₂ holding origin_both deltas_both
      ∙ sym (purge_past (K + J) S (first ++ second) (take-add K J (log_of S)))
