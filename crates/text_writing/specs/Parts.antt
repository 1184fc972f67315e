-- What putting down the parts of a text asks, and what it leaves.
use Rattle.std.specs.Prelude.{◌≡◌, List, ℕ, ◌+◌, ◌≤◌, T, length}
use Rattle.model.specs.Layout.{sequence_size, characters_size, text_room}
use Rattle.model.specs.Text.{text_of, sequences_right}
use Rattle.model.specs.Calls.{written}

-- one sequence, and room for its characters
pub record PartWritable (text : List ℕ) (at : ℕ) (sequences : List ℕ) (from : ℕ) : Type 0 where
  pub inside : from + sequence_size ≤ length sequences
  pub room : at + characters_size ≤ length text

-- one to eight sequences
pub record TextWritable (text sequences : List ℕ) : Type 0 where
  pub formed : T (sequences_right sequences)
  pub room : text_room ≤ length text

pub record TextPut (sequences text : List ℕ) (size : ℕ) (exit : List ℕ) : Type 0 where
  pub sized : size ≡ length (text_of sequences)
  pub put : exit ≡ written (text_of sequences) text
