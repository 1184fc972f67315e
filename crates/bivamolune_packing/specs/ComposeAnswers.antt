-- What compose promises in C: the number that it answers, and every byte of the message buffer.
use Rattle.std.specs.Prelude.{◌≡◌, List, ℕ}
use Rattle.model.specs.Calls.{compose}
use Rattle.bivamolune_packing.specs.Packing.{packed_length, LengthUnpacks}

-- code + 256 × length, and the header gives the two back
pub record Composes (image line commands : List ℕ) (flag priority : ℕ) (message : List ℕ) (r : ℕ) (message_exit : List ℕ) : Type 0 where
  pub answer : r ≡ packed_length (compose image line commands flag priority message).code (compose image line commands flag priority message).size
  pub parts : LengthUnpacks r (compose image line commands flag priority message).code (compose image line commands flag priority message).size
  pub message_after : message_exit ≡ (compose image line commands flag priority message).message
