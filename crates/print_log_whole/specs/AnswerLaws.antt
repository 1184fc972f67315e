-- What is printed: the lines, nothing, or a code.
use Rattle.std.specs.Prelude.{◌≡◌, ℕ, suc, ◌≤◌}
use Rattle.std.proofs.Math.Path.{refl, sym, subst}
use Rattle.std.proofs.Common.{◌∙◌, ap, arith}
use mathlib.Core.List.{List, [], ◌∷◌, ◌++◌}
use Rattle.model.specs.Image.{log_count}
use Rattle.model.specs.Codes.{lowest_code, read_conditions}
use Rattle.model.specs.Program.{log_answer, printed_log}
use Rattle.program_decimal.specs.Puts.{numeral, Puts}
use Rattle.program_decimal.specs.Front.{Prints, puts_prints}
use Rattle.print_log_walk.specs.Printing.{lines_from}
use Rattle.print_log_walk.specs.PrintingLaws.{lines_end}

module _ (b : List ℕ) {entry exit : List ℕ} {r : ℕ} where
  prints_as : {text : List ℕ} {n : ℕ} → lowest_code (read_conditions b) ≡ n → text ≡ log_answer n b → Prints text entry r exit → Prints (printed_log b) entry r exit
  unfolding printed_log
  prints_as e f p = subst (λ (t : List ℕ). Prints t entry r exit) (f ∙ sym (ap (λ (n : ℕ). log_answer n b) e)) p

  pub prints_lines : lowest_code (read_conditions b) ≡ 0 → {k : ℕ} → Puts entry 0 k (lines_from b 0) r exit → Prints (printed_log b) entry r exit
  unfolding lines_from
  prints_lines e p = prints_as e refl (puts_prints p)

  pub prints_code : (n : ℕ) → lowest_code (read_conditions b) ≡ suc n → {k : ℕ} → Puts entry 0 k (numeral (suc n) ++ 10 ∷ []) r exit → Prints (printed_log b) entry r exit
  unfolding numeral
  prints_code n e p = prints_as e refl (puts_prints p)

-- an empty log prints nothing
pub prints_nothing : (b entry : List ℕ) → lowest_code (read_conditions b) ≡ 0 → log_count b ≤ 0 → Prints (printed_log b) entry 0 entry
prints_nothing b entry e h = prints_lines b e {k = 0} (subst (λ (l : List ℕ). Puts entry 0 0 l 0 entry) (sym (lines_end b 0 h)) (record { few = omega arith; end = refl; bytes = refl }))
