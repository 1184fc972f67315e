-- Too little is left for the message at an offset: for a header, or for the length that the header says.
use Rattle.std.specs.Prelude.{◌≡◌, false, List, ℕ, ◌+◌, ◌<◌, length}
use Rattle.std.proofs.Common.{arith}
use Rattle.model.specs.Bytes.{field}
use Rattle.model.specs.Layout.{length_at, header_size}
use Rattle.model.specs.Message.{passes}
use Rattle.laws_order.specs.TestLaws.{false_of}
use Rattle.set_table.specs.Table.{message_from}
use Rattle.set_table.specs.TableLaws.{Lies, passes_lies}

module _ (b : List ℕ) (at : ℕ) where
  pub short_fails : length b < at + header_size → passes (message_from b at) ≡ false
  short_fails h = false_of (passes (message_from b at)) (λ t. let l : Lies b at = passes_lies b at t in let z : ⊥ = omega arith in z)

  pub past_end_fails : length b < at + field b (at + length_at) 2 → passes (message_from b at) ≡ false
  past_end_fails h = false_of (passes (message_from b at)) (λ t. let l : Lies b at = passes_lies b at t in let z : ⊥ = omega arith in z)
