-- Demands 2 and 3 as the host sees them, over whole lists of calls: stated over what `bivamolune_empty`, `bivamolune_deliver` and
-- `bivamolune_purge` were proved to leave behind, their own postconditions, with code and counts as the header takes them out of the answered number.
use Rattle.std.specs.Prelude.{◌≡◌, List, ℕ}
use Rattle.std.specs.Borrow.{Bor, MutBor}
use contract.Lifetimes.{Lfts}
use Rattle.model.specs.Message.{Message}
use Rattle.model.specs.Calls.{Emptied, Delivered, Purged}
use Rattle.bivamolune_packing.specs.Packing.{code_in, undos_in, executions_in}
use Rattle.bivamolune.proofs.bivamolune_empty.Reads as empty_reads
use Rattle.bivamolune.proofs.bivamolune_deliver.Reads as deliver_reads
use Rattle.bivamolune.proofs.bivamolune_purge.Reads as purge_reads

-- ---- the answers, as the host reads them
-- empty answers the code
abbrev pub emptied_with : ℕ → List ℕ → Emptied
emptied_with number image = record { code = number; image = image }

-- of deliver's answer bivamolune_code, bivamolune_undos and bivamolune_executions are taken
abbrev pub delivered_with : ℕ → List ℕ → List ℕ → Delivered
delivered_with number image steps = record { code = code_in number; undos = undos_in number; executions = executions_in number; image = image; steps = steps }

-- purge answers the code
abbrev pub purged_with : ℕ → List ℕ → Purged
purged_with number image = record { code = number; image = image }

-- ---- the calls
-- A call of `bivamolune_empty` on this buffer, and what it answered and left.
pub record HostEmptied (buffer : List ℕ) (a : Emptied) : Type 0 where
  pub lifetimes : Lfts 1
  pub entry : MutBor (List ℕ)
  pub exit : MutBor (List ℕ)
  pub number : ℕ
  pub post : empty_reads.Post lifetimes (entry, tt) number (exit, tt)
  pub lent : buffer ≡ entry.now
  pub answer : a ≡ emptied_with number exit.now

-- A call of `bivamolune_deliver` on the image b, with this message and step buffer, and what it answered and left.
pub record HostDelivered (b : List ℕ) (m : Message) (steps : List ℕ) (a : Delivered) : Type 0 where
  pub lifetimes : Lfts 3
  pub image_entry : MutBor (List ℕ)
  pub image_exit : MutBor (List ℕ)
  pub message : Bor (List ℕ)
  pub steps_entry : MutBor (List ℕ)
  pub steps_exit : MutBor (List ℕ)
  pub number : ℕ
  pub post : deliver_reads.Post lifetimes (image_entry, (message, (steps_entry, tt))) number (image_exit, (message, (steps_exit, tt)))
  pub image : b ≡ image_entry.now
  pub sent : m ≡ message.now
  pub lent : steps ≡ steps_entry.now
  pub answer : a ≡ delivered_with number image_exit.now steps_exit.now

-- A call of `bivamolune_purge` on the image b with this K, and what it answered and left.
pub record HostPurged (b : List ℕ) (K : ℕ) (a : Purged) : Type 0 where
  pub lifetimes : Lfts 1
  pub entry : MutBor (List ℕ)
  pub exit : MutBor (List ℕ)
  pub number : ℕ
  pub post : purge_reads.Post lifetimes (entry, (K, tt)) number (exit, (K, tt))
  pub lent : b ≡ entry.now
  pub answer : a ≡ purged_with number exit.now
