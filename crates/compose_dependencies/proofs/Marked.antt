-- What the marks of a delta tell of it: whether a new one depends on it.
use Rattle.std.specs.Prelude.{◌≡◌, Bool, false, not, List, ℕ, ◌<◌, length, get_or}
use Rattle.std.proofs.Common.{◌∙◌, sym, ap, arith, eq-eqb, ne_eqb}
use Rattle.std.proofs.lemmas.List.{length-map}
use Rattle.model.specs.Lists.{has, some?}
use Rattle.model.specs.Message.{predecessor_of}
use Rattle.model.specs.Order.{State, sequences_of, needs, log_of}
use Rattle.set_table.specs.Table.{message_from, set_in}
use Rattle.set_table.specs.Places.{sequence_in}
use Rattle.set_needs.specs.NameLaws.{sequence_at}
use Rattle.set_readiness.specs.Ready.{is_placed}
use Rattle.compose_dependencies.specs.declared.Uses.{Uses}
use Rattle.compose_dependencies.specs.Unneeded.{chosen, UsesRight}
use Rattle.compose_dependencies.specs.UnneededLaws.{not_logged, is_needed, not_needed}

module _ (pool starts : List ℕ) (s i : ℕ) (u : Uses) (right : UsesRight (set_in pool starts) u) (inside : i < length starts) where
  abbrev S : State
  S = set_in pool starts

  abbrev own : ℕ
  own = sequence_in pool starts i

  there : i < length (set_in pool starts).deltas
  there = omega (arith, length-map starts (message_from pool))

  in_log : {t : Bool} → is_placed u.logged i ≡ t → has (sequence_in pool starts i) (sequences_of (log_of (set_in pool starts))) ≡ t
  in_log e = ap (λ (n : ℕ). has n (sequences_of (log_of S))) (sym (sequence_at S.deltas i)) ∙ sym (right.logged i there) ∙ e

  in_use : {t : Bool} → is_placed u.needed i ≡ t
      → some? (λ m. has (sequence_in pool starts i) (needs (set_in pool starts) m)) (log_of (set_in pool starts)) ≡ t
  in_use e = ap (λ (n : ℕ). some? (λ m. has n (needs S m)) (log_of S)) (sym (sequence_at S.deltas i)) ∙ sym (right.needed i there) ∙ e

  pub held : get_or u.logged i 0 ≡ 0 → chosen (set_in pool starts) s (sequence_in pool starts i) ≡ false
  held e = sym (not_logged S s own (in_log (ap not (eq-eqb _ _ e))))

  module _ (logged : get_or u.logged i 0 ≡ 0 → ⊥) where
    pub used : (get_or u.needed i 0 ≡ 0 → ⊥) → chosen (set_in pool starts) s (sequence_in pool starts i) ≡ false
    used d = sym (is_needed S s own (in_log (ap not (ne_eqb _ _ logged))) (in_use (ap not (ne_eqb _ _ d))))

    pub unused : get_or u.needed i 0 ≡ 0
        → chosen (set_in pool starts) s (sequence_in pool starts i) ≡ not (has (sequence_in pool starts i) (predecessor_of s))
    unused e = sym (not_needed S s own (in_log (ap not (ne_eqb _ _ logged))) (in_use (ap not (eq-eqb _ _ e))))

pub ruleset marked = (held, used, unused)
