-- Demands 2 and 3 of the code, over whole lists of calls: stated over what `empty`, `deliver` and `purge` were proved to leave behind, their
-- own postconditions.
use Rattle.std.specs.Prelude.{◌≡◌, List, ℕ, Result}
use Rattle.std.proofs.Common.{sym, ◌∙◌, ap, ap₂}
use Rattle.std.specs.Borrow.{Bor, MutBor}
use contract.Lifetimes.{Lfts}
use Rattle.model.specs.Message.{Message}
use Rattle.model.specs.Calls.{Emptied, empty, Delivered, deliver, Purged, purge}
use Rattle.model_runs.specs.Run.{Agreement}
use Rattle.model_runs.specs.RunOrder.{OrderKept}
use Rattle.laws_run.specs.CalledRuns.{Began, Answered, called_agreement, called_order}
use Rattle.refusals.specs.declared.Refusal.{Refusal}
use Rattle.deliver_accepting.specs.declared.Counts.{Counts}
use Rattle.deliver_taking.specs.Answer.{delivered_by}
use Rattle.empty.specs.EmptyAnswer.{emptied_by}
use Rattle.purge_dropping.specs.PurgeAnswer.{purged_by}
use Rattle.empty.proofs.empty.Reads as empty_reads
use Rattle.deliver.proofs.delivery.deliver.Reads as deliver_reads
use Rattle.purge.proofs.purge.Reads as purge_reads

-- A call of `empty` on this buffer, and what it answered and left.
pub record EmptiedFrom (buffer : List ℕ) (a : Emptied) : Type 0 where
  pub lifetimes : Lfts 1
  pub entry : MutBor (List ℕ)
  pub exit : MutBor (List ℕ)
  pub result : Result (Unit {0}) Refusal
  pub post : empty_reads.Post lifetimes (entry, tt) result (exit, tt)
  pub lent : buffer ≡ entry.now
  pub answer : a ≡ emptied_by result exit.now

-- A call of `deliver` on the image b, with this message and step buffer, and what it answered and left.
pub record DeliveredTo (b : List ℕ) (m : Message) (steps : List ℕ) (a : Delivered) : Type 0 where
  pub lifetimes : Lfts 3
  pub image_entry : MutBor (List ℕ)
  pub image_exit : MutBor (List ℕ)
  pub message : Bor (List ℕ)
  pub steps_entry : MutBor (List ℕ)
  pub steps_exit : MutBor (List ℕ)
  pub result : Result Counts Refusal
  pub post : deliver_reads.Post lifetimes (image_entry, (message, (steps_entry, tt))) result (image_exit, (message, (steps_exit, tt)))
  pub image : b ≡ image_entry.now
  pub sent : m ≡ message.now
  pub lent : steps ≡ steps_entry.now
  pub answer : a ≡ delivered_by result image_exit.now steps_exit.now

-- A call of `purge` on the image b with this K, and what it answered and left.
pub record PurgedFrom (b : List ℕ) (K : ℕ) (a : Purged) : Type 0 where
  pub lifetimes : Lfts 1
  pub entry : MutBor (List ℕ)
  pub exit : MutBor (List ℕ)
  pub result : Result (Unit {0}) Refusal
  pub post : purge_reads.Post lifetimes (entry, (K, tt)) result (exit, (K, tt))
  pub lent : b ≡ entry.now
  pub answer : a ≡ purged_by result exit.now

-- ---- they are the definitions' calls
pub emptied_as : (buffer : List ℕ) (a : Emptied) → EmptiedFrom buffer a → a ≡ empty buffer
emptied_as buffer a c = c.answer ∙ c.post ∙ ap empty (sym c.lent)

pub delivered_as : (b : List ℕ) (m : Message) (steps : List ℕ) (a : Delivered) → DeliveredTo b m steps a → a ≡ deliver b m steps
delivered_as b m steps a c =
    c.answer ∙ c.post ∙ ap₂ (λ (x y : List ℕ). deliver x y c.steps_entry.now) (sym c.image) (sym c.sent) ∙ ap (deliver b m) (sym c.lent)

pub purged_as : (b : List ℕ) (K : ℕ) (a : Purged) → PurgedFrom b K a → a ≡ purge b K
purged_as b K a c = c.answer ∙ c.post ∙ ap (λ (x : List ℕ). purge x K) (sym c.lent)

-- DEMAND 3
pub agreement : Agreement (Began EmptiedFrom) (Answered DeliveredTo PurgedFrom)
agreement = called_agreement EmptiedFrom DeliveredTo PurgedFrom emptied_as delivered_as purged_as

-- DEMAND 2 after every call
pub order_kept : OrderKept (Began EmptiedFrom) (Answered DeliveredTo PurgedFrom)
order_kept = called_order EmptiedFrom DeliveredTo PurgedFrom emptied_as delivered_as purged_as
