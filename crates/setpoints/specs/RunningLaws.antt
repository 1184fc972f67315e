-- Commands run one after the other, and their changes kept.
use Rattle.std.specs.Prelude.{◌≡◌, refl, List, [], ◌∷◌, ◌++◌, ℕ, ◌+◌, ◌*◌, ◌/◌, ◌≤◌, ◌<◌, ℤ, length, take, drop, set}
use Rattle.std.proofs.Common.{sym, ap, ap₂, ◌∙◌, append_assoc, append-nil, arith, add-one, take-suc-set}
use Rattle.model.specs.Layout.{command_size, tag_count}
use Rattle.model.specs.Setpoints.{Change, change_of, apply, run_command, run_commands, changes_by}
use Rattle.setpoints.specs.Commands.{commands_in}
use Rattle.setpoints.specs.CommandLaws.{commands_end, commands_next}
use Rattle.setpoints.specs.Running.{Running}

-- none is run
pub running_none : (c : List ℕ) (start : List ℤ) (kept : List Change) → length start ≡ tag_count → Running c start kept start 0
running_none c start kept size = record { inside = omega arith; size = size; values = refl; changes = refl }

-- one more: its change d is kept, and applied to the current values
pub running_more : (c : List ℕ) (start : List ℤ) {kept then : List Change} {current next : List ℤ} (k : ℕ) {d : Change} → Running c start kept current k
    → k < length c / command_size → k < length kept → d ≡ change_of (take command_size (drop (command_size * k) c)) current
    → then ≡ set kept k d → next ≡ apply d current → length next ≡ tag_count → Running c start then next (k + 1)
unfolding run_command
running_more c start {kept} {then} {current} {next} k {d} r h room e f g size = record {
  inside = omega arith;
  size = size;
  values = r.values ∙ ap (λ (l : List (List ℕ)). run_commands l current) more ∙ ap (run_commands rest) after;
  changes = r.changes ∙ ap (λ (l : List (List ℕ)). take k kept ++ changes_by l current) more
      ∙ ap₂ (λ (x : Change) (v : List ℤ). take k kept ++ x ∷ changes_by rest v) (sym e) after
      ∙ sym (append_assoc (take k kept) (d ∷ []) (changes_by rest next))
      ∙ ap (λ (l : List Change). l ++ changes_by rest next) (sym (ap₂ take (add-one k) f ∙ take-suc-set kept k d room));
}
  where
    rest : List (List ℕ)
    rest = commands_in (drop (command_size * (k + 1)) c)

    more : commands_in (drop (command_size * k) c) ≡ take command_size (drop (command_size * k) c) ∷ rest
    more = commands_next c k h

    after : apply (change_of (take command_size (drop (command_size * k) c)) current) current ≡ next
    after = ap (λ (x : Change). apply x current) (sym e) ∙ sym g

-- all are run
module _ (c : List ℕ) (start : List ℤ) {kept : List Change} {current : List ℤ} (k : ℕ) (r : Running c start kept current k) (h : length c / command_size ≤ k) where
  pub ran_values : current ≡ run_commands (commands_in c) start
  ran_values = sym (r.values ∙ ap (λ (l : List (List ℕ)). run_commands l current) (commands_end c k h))

  pub ran_changes : take (length c / command_size) kept ≡ changes_by (commands_in c) start
  ran_changes =
      let all : length c / command_size ≡ k = omega (arith, r.inside) in
      ap (λ (n : ℕ). take n kept) all ∙ sym (append-nil (take k kept))
      ∙ sym (r.changes ∙ ap (λ (l : List (List ℕ)). take k kept ++ changes_by l current) (commands_end c k h))
