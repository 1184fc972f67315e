-- Names by their places, of a set.
use Rattle.std.specs.Prelude.{◌≡◌, List, [], map, ℕ, length, get_or, take}
use Rattle.std.proofs.Common.{sym, ◌∙◌, ap, subst, arith, length-take-le}
use Rattle.std.proofs.lemmas.List.{length-map}
use Rattle.std.proofs.Math.ListN.{get_or-map}
use Rattle.model.specs.Message.{Message, sequence_of}
use Rattle.model.specs.Order.{State, Ascending, RightSet, sequences_of}
use Rattle.set_table.specs.PlaceLaws.{ascending_at}
use Rattle.message_sequence.specs.declared.Sequence.{Sequence}
use Rattle.message_sequence.specs.Sequence.{sequence_number}
use Rattle.set_needs.specs.Names.{Ascends, Searchable, SequencesRight}

-- ---- of a set
pub sequence_at : (l : List Message) (k : ℕ) → get_or (sequences_of l) k 0 ≡ sequence_of (get_or l k [])
sequence_at l k = get_or-map sequence_of l k []

pub set_ascends : (l : List Message) → Ascending l → Ascends (sequences_of l)
set_ascends l h i j p q = omega (arith, sequence_at l i, sequence_at l j, ascending_at l h i j p (omega (arith, length-map l sequence_of)))

-- the first of them can be searched
module _ (S : State) (sequences : List Sequence) (right : RightSet S) (read : SequencesRight S.deltas sequences) (n : ℕ) (all : n ≡ length S.deltas) where
  pub names_read : map sequence_number (take n sequences) ≡ sequences_of S.deltas
  names_read = ap (λ (k : ℕ). map sequence_number (take k sequences)) all ∙ read.names

  pub set_searchable : Searchable (take n sequences)
  set_searchable = record {
    few = let size : length (take n sequences) ≡ n = length-take-le n sequences (omega (arith, right.fits, read.size)) in omega (arith, right.fits);
    ascends = subst Ascends (sym names_read) (set_ascends S.deltas right.ascends);
  }
