-- What document 01 promises of a composed message, as the host sees it: over the postconditions of `bivamolune_compose` and
-- `bivamolune_deliver`, with code and length as the header takes them out of the answered number.
use Rattle.std.specs.Prelude.{◌≡◌, List, ℕ}
use Rattle.std.specs.Borrow.{Bor, MutBor}
use contract.Lifetimes.{Lfts}
use Rattle.model.specs.Calls.{Composed}
use Rattle.bivamolune_packing.specs.Packing.{code_in, length_in}
use Rattle.bivamolune.proofs.composition.bivamolune_compose.Reads as compose_reads

-- of compose's answer bivamolune_code and bivamolune_composed_length are taken
abbrev pub composed_with : ℕ → List ℕ → Composed
composed_with number message = record { code = code_in number; size = length_in number; message = message }

-- A call of `bivamolune_compose` on the image b with this line, these commands, flag and priority, and this message buffer, and what it
-- answered and left.
pub record HostComposed (b line commands : List ℕ) (flag priority : ℕ) (buffer : List ℕ) (a : Composed) : Type 0 where
  pub lifetimes : Lfts 4
  pub image : Bor (List ℕ)
  pub line_lent : Bor (List ℕ)
  pub commands_lent : Bor (List ℕ)
  pub message_entry : MutBor (List ℕ)
  pub message_exit : MutBor (List ℕ)
  pub number : ℕ
  pub post : compose_reads.Post lifetimes (image, (line_lent, (commands_lent, (flag, (priority, (message_entry, tt)))))) number (image, (line_lent, (commands_lent, (flag, (priority, (message_exit, tt))))))
  pub on : b ≡ image.now
  pub of_line : line ≡ line_lent.now
  pub of_commands : commands ≡ commands_lent.now
  pub lent : buffer ≡ message_entry.now
  pub answer : a ≡ composed_with number message_exit.now
