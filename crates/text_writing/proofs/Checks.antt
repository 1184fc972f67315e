-- What writing answers, by what its checks look at.
use Rattle.std.specs.Prelude.{◌≡◌, refl, Bool, true, false, not, cond, List, ℕ, ltb, length}
use Rattle.std.proofs.Common.{sym}
use Rattle.std.proofs.lemmas.Bool.{not-true, not-false}
use Rattle.model.specs.Layout.{text_room}
use Rattle.model.specs.Text.{sequences_right, all_numbered, text_of}
use Rattle.model.specs.Calls.{written, write_sequences, Converted}
use Rattle.laws_codes.specs.Ladder.{none, met, free, fails, passes}
use Rattle.laws_text.specs.AnswerLaws.{write_told}

abbrev refused : ℕ → List ℕ → Converted
refused code b = record { code = code; size = 0; buffer = b }

pub by_checks : (s b : List ℕ) → write_sequences s b
    ≡ cond (not (ltb (length b) text_room)) (cond (sequences_right s) (cond (all_numbered s)
    (record { code = 0; size = length (text_of s); buffer = written (text_of s) b }) (refused 14 b)) (refused 13 b)) (refused 1 b)
by_checks s b = go _ _ _ refl refl refl
  where
    go : (x y z : Bool) → x ≡ not (ltb (length b) text_room) → y ≡ sequences_right s → z ≡ all_numbered s → write_sequences s b
        ≡ cond x (cond y (cond z (record { code = 0; size = length (text_of s); buffer = written (text_of s) b }) (refused 14 b)) (refused 13 b)) (refused 1 b)
    go false y z e f g = sym (write_told s b (met (not-false _ (sym e))))
    go true false z e f g = sym (write_told s b (free (not-true _ (sym e)) (fails f)))
    go true true false e f g = sym (write_told s b (free (not-true _ (sym e)) (passes f (fails g))))
    go true true true e f g = sym (write_told s b (free (not-true _ (sym e)) (passes f (passes g none))))
