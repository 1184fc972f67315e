-- A purge lets the executions of the deltas go that it drops: of all that stand, the earliest.
use Rattle.std.specs.Prelude.{◌≡◌, refl, List, [], ◌∷◌, ◌++◌, ℕ, ◌+◌, ◌-◌, ◌≤◌, length, take, drop, ℤ}
use Rattle.std.proofs.Common.{sym, ◌∙◌, ap, ap₂, append_assoc, arith, length-drop, take-append-drop, take_at}
use Rattle.model.specs.Message.{Message}
use Rattle.model.specs.Order.{State, RightSet, log_of}
use Rattle.model.specs.Setpoints.{start_values, run_delta, run_log}
use Rattle.model.specs.Purge.{purge_first}
use Rattle.model.specs.Steps.{Standing}
use Rattle.laws_state.specs.PairLaws.{standing_by, standing_append, standing_in}
use Rattle.laws_purge.specs.PurgedState.{purge_start}
use Rattle.laws_purge.specs.PurgeLaws.{purge_log}

-- the executions of a log stand before the earlier ones
standing_before : (earlier : List Standing) (l : List Message) (values : List ℤ) → standing_by earlier l values ≡ standing_by [] l values ++ earlier
standing_before earlier [] values = refl
standing_before earlier (m ∷ l) values =
    let next : List ℤ = run_delta m values in
    standing_before (_ ∷ earlier) l next ∙ sym (append_assoc (standing_by [] l next) (_ ∷ []) earlier)
    ∙ ap (λ (s : List Standing). s ++ earlier) (sym (standing_before (_ ∷ []) l next))

length_standing : (earlier : List Standing) (l : List Message) (values : List ℤ) → length (standing_by earlier l values) ≡ length l + length earlier
length_standing earlier [] values = omega arith
length_standing earlier (m ∷ l) values = length_standing (_ ∷ earlier) l (run_delta m values) ∙ omega arith

module _ (S : State) (right : RightSet S) (K : ℕ) where
  standing_left : standing_in [] (purge_first K S) ≡ standing_by [] (drop K (log_of S)) (run_log (take K (log_of S)) (start_values S))
  standing_left = ap₂ (standing_by []) (purge_log S right K) (purge_start K S)

  standing_parted : standing_in [] S ≡ standing_in [] (purge_first K S) ++ standing_by [] (take K (log_of S)) (start_values S)
  standing_parted =
      ap (λ (l : List Message). standing_by [] l (start_values S)) (sym (take-append-drop K (log_of S)))
      ∙ standing_append [] (take K (log_of S)) (drop K (log_of S)) (start_values S)
      ∙ standing_before (standing_by [] (take K (log_of S)) (start_values S)) (drop K (log_of S)) (run_log (take K (log_of S)) (start_values S))
      ∙ ap (λ (s : List Standing). s ++ standing_by [] (take K (log_of S)) (start_values S)) (sym standing_left)

  pub standing_purged : K ≤ length (log_of S) → take (length (standing_in [] S) - K) (standing_in [] S) ≡ standing_in [] (purge_first K S)
  standing_purged h =
      ap₂ take enough standing_parted
      ∙ take_at (standing_in [] (purge_first K S)) (standing_by [] (take K (log_of S)) (start_values S)) (length (standing_in [] (purge_first K S))) refl
    where
      enough : length (standing_in [] S) - K ≡ length (standing_in [] (purge_first K S))
      enough = omega (
        arith,
        length_standing [] (log_of S) (start_values S),
        length_standing [] (log_of (purge_first K S)) (start_values (purge_first K S)),
        ap length (purge_log S right K),
        length-drop K (log_of S),
      )
