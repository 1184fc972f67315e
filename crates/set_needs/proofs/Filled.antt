-- The rows of the first deltas, one after the other.
use Rattle.std.proofs.Common.{◌≡◌, List, map, ℕ, ◌+◌, ◌*◌, ◌≤◌, ◌<◌, length, take, set, ◌∙◌, arith, length-set}
use Rattle.model.specs.Layout.{capacity}
use Rattle.model.specs.Order.{sequences_of}
use Rattle.message_sequence.specs.declared.Sequence.{Sequence}
use Rattle.message_sequence.specs.Sequence.{sequence_number}
use Rattle.set_table.specs.Table.{deltas_of, set_in, Holds}
use Rattle.set_table.specs.TableLaws.{deltas_length, table_count}
use Rattle.set_needs.specs.Names.{Searchable, SequencesRight}
use Rattle.set_needs.specs.NameLaws.{names_read, set_searchable}
use Rattle.set_needs.specs.Rows.{row_size, row_of, RowIs, RowFilled, RowsRight}
use Rattle.set_needs.specs.RowLaws.{rows_length, rows_more}

-- what is asked of the sequences
module _ (pool starts : List ℕ) (sequences : List Sequence) (holds : Holds pool starts) (read : SequencesRight (deltas_of pool starts) sequences) where
  all : length starts ≡ length (deltas_of pool starts)
  all = let e = deltas_length pool starts in omega arith

  pub read_searchable : Searchable (take (length starts) sequences)
  read_searchable = set_searchable (set_in pool starts) sequences holds read (length starts) all

  pub read_names : map sequence_number (take (length starts) sequences) ≡ sequences_of (deltas_of pool starts)
  read_names = names_read (set_in pool starts) sequences holds read (length starts) all

pub record Filled (pool starts rows counts : List ℕ) (i : ℕ) : Type 0 where
  pub size : length rows ≡ row_size * capacity
  pub counted : length counts ≡ capacity
  pub row : (k : ℕ) → k < i → RowIs rows counts k (row_of (set_in pool starts) k)
  pub few : length starts ≤ capacity

pub filled_none : (pool starts rows counts : List ℕ) → Holds pool starts → length rows ≡ row_size * capacity → length counts ≡ capacity → Filled pool starts rows counts 0
filled_none pool starts rows counts h e f = record {
  size = e;
  counted = f;
  row = λ k q. let z : ⊥ = omega arith in absurd z;
  few = table_count pool starts h;
}

module _ (pool starts rows counts : List ℕ) (i : ℕ) (f : Filled pool starts rows counts i) where
  pub filled_room : i < length starts → row_size * i + row_size ≤ length rows
  filled_room h = omega (arith, f.size, f.few)

  pub filled_more : (after : List ℕ) (n : ℕ) → i < length starts → RowFilled rows (row_size * i) (row_of (set_in pool starts) i) after n
      → Filled pool starts after (set counts i n) (i + 1)
  filled_more after n h r =
      let here : i < length counts = omega (arith, f.counted, f.few) in
      let row = row_of (set_in pool starts) in
      record {
        size = rows_length row rows counts i n r (filled_room h) here ∙ f.size;
        counted = length-set counts i n ∙ f.counted;
        row = rows_more row rows counts i n r (filled_room h) here f.row;
        few = f.few;
      }

  pub filled_all : length starts ≤ i → RowsRight (set_in pool starts) rows counts
  filled_all h =
      let inside : (k : ℕ) → k < length (deltas_of pool starts) → k < i = λ k q. omega (arith, deltas_length pool starts) in
      record {
        size = f.size;
        counted = f.counted;
        short = λ k q. (f.row k (inside k q)).short;
        row = λ k q. (f.row k (inside k q)).row;
      }

pub ruleset filled = (read_searchable, read_names, filled_none, filled_room, filled_more, filled_all)
