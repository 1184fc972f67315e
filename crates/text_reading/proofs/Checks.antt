-- What reading answers, by what its checks look at.
use Rattle.std.specs.Prelude.{◌≡◌, refl, Bool, true, false, not, cond, List, ℕ, ltb, length}
use Rattle.std.proofs.Common.{sym}
use Rattle.std.proofs.lemmas.Bool.{not-true, not-false}
use Rattle.model.specs.Layout.{sequences_room}
use Rattle.model.specs.Text.{text_right, all_numbered, sequence_bytes_in}
use Rattle.model.specs.Calls.{written, read_sequences, Converted}
use Rattle.laws_codes.specs.Ladder.{none, met, free, fails, passes}
use Rattle.laws_text.specs.AnswerLaws.{read_told}

abbrev refused : ℕ → List ℕ → Converted
refused code b = record { code = code; size = 0; buffer = b }

pub by_checks : (t b : List ℕ) → read_sequences t b
    ≡ cond (not (ltb (length b) sequences_room)) (cond (text_right t) (cond (all_numbered (sequence_bytes_in t))
    (record { code = 0; size = length (sequence_bytes_in t); buffer = written (sequence_bytes_in t) b }) (refused 14 b)) (refused 13 b)) (refused 1 b)
by_checks t b = go _ _ _ refl refl refl
  where
    go : (x y z : Bool) → x ≡ not (ltb (length b) sequences_room) → y ≡ text_right t → z ≡ all_numbered (sequence_bytes_in t) → read_sequences t b
        ≡ cond x (cond y (cond z (record { code = 0; size = length (sequence_bytes_in t); buffer = written (sequence_bytes_in t) b }) (refused 14 b)) (refused 13 b)) (refused 1 b)
    go false y z e f g = sym (read_told t b (met (not-false _ (sym e))))
    go true false z e f g = sym (read_told t b (free (not-true _ (sym e)) (fails f)))
    go true true false e f g = sym (read_told t b (free (not-true _ (sym e)) (passes f (fails g))))
    go true true true e f g = sym (read_told t b (free (not-true _ (sym e)) (passes f (passes g none))))
