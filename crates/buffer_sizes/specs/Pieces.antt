-- Bytes in whole pieces.
use Rattle.std.specs.Prelude.{◌≡◌, Bool, ◌&&◌, List, ℕ, ◌%◌, ◌<◌, eqb, leb, length, get_or}
use Rattle.std.proofs.Common.{sym, ◌∙◌, ap}
use Rattle.model.specs.Bytes.{is_bytes}
use Rattle.laws_order.specs.TestLaws.{is_true}
use Rattle.buffer_reads.specs.FieldLaws.{all_bytes}

abbrev pub whole_pieces : ℕ → ℕ → ℕ → Bool
whole_pieces size piece most = leb piece size && leb size most && eqb (size % piece) 0

-- of a slice nothing else is asked
pub slice_pieces : (b : List ℕ) → ((i : ℕ) → get_or b i 0 < 256) → {r : Bool} (piece most : ℕ) → r ≡ whole_pieces (length b) piece most
    → r ≡ (is_bytes b && leb piece (length b) && leb (length b) most && eqb (length b % piece) 0)
slice_pieces b all piece most e =
    e ∙ ap (λ (t : Bool). t && leb piece (length b) && leb (length b) most && eqb (length b % piece) 0) (sym (is_true (is_bytes b) (all_bytes b all)))
