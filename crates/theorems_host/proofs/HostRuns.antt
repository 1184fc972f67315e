-- Demands 2 and 3 as the host sees them: the calls are the definitions', and so keep what those keep.
use Rattle.std.specs.Prelude.{◌≡◌, List, ℕ}
use Rattle.std.proofs.Common.{sym, ◌∙◌, ap, ap₂}
use Rattle.model.specs.Message.{Message}
use Rattle.model.specs.Calls.{Emptied, empty, Delivered, deliver, Purged, purge}
use Rattle.model_runs.specs.Run.{Agreement, EqualAccepted}
use Rattle.model_runs.specs.RunOrder.{OrderKept}
use Rattle.laws_run.specs.CalledRuns.{Began, Answered, called_agreement, called_order}
use Rattle.laws_run.specs.AcceptedRuns.{equal_accepted}
use Rattle.bivamolune_packing.specs.Answers.{Empties, Delivers, Purges}
use Rattle.theorems_host.specs.HostRuns.{emptied_with, delivered_with, purged_with, HostEmptied, HostDelivered, HostPurged}

-- ---- they are the definitions' calls
emptied_is : (buffer : List ℕ) (number : ℕ) (exit : List ℕ) → Empties buffer number exit → emptied_with number exit ≡ empty buffer
emptied_is buffer number exit e = λ i. record { code = e.code i; image = e.image i }

delivered_is : (b : List ℕ) (m : Message) (steps : List ℕ) (number : ℕ) (image_exit steps_exit : List ℕ) → Delivers b m steps number image_exit steps_exit
    → delivered_with number image_exit steps_exit ≡ deliver b m steps
delivered_is b m steps number image_exit steps_exit d = λ i. record {
  code = d.parts.code_back i;
  undos = d.parts.undos_back i;
  executions = d.parts.executions_back i;
  image = d.image_after i;
  steps = d.steps_after i;
}

pub host_emptied_as : (buffer : List ℕ) (a : Emptied) → HostEmptied buffer a → a ≡ empty buffer
host_emptied_as buffer a c = c.answer ∙ emptied_is c.entry.now c.number c.exit.now c.post ∙ ap empty (sym c.lent)

pub host_delivered_as : (b : List ℕ) (m : Message) (steps : List ℕ) (a : Delivered) → HostDelivered b m steps a → a ≡ deliver b m steps
host_delivered_as b m steps a c =
    c.answer ∙ delivered_is c.image_entry.now c.message.now c.steps_entry.now c.number c.image_exit.now c.steps_exit.now c.post
    ∙ ap₂ (λ (x y : List ℕ). deliver x y c.steps_entry.now) (sym c.image) (sym c.sent) ∙ ap (deliver b m) (sym c.lent)

purged_is : (b : List ℕ) (K number : ℕ) (exit : List ℕ) → Purges b K number exit → purged_with number exit ≡ purge b K
purged_is b K number exit p = λ i. record { code = p.code i; image = p.image i }

pub host_purged_as : (b : List ℕ) (K : ℕ) (a : Purged) → HostPurged b K a → a ≡ purge b K
host_purged_as b K a c = c.answer ∙ purged_is c.entry.now K c.number c.exit.now c.post ∙ ap (λ (x : List ℕ). purge x K) (sym c.lent)

-- DEMAND 3, as the host sees it
pub host_agreement : Agreement (Began HostEmptied) (Answered HostDelivered HostPurged)
host_agreement = called_agreement HostEmptied HostDelivered HostPurged host_emptied_as host_delivered_as host_purged_as

-- DEMAND 2 after every call, as the host sees it
pub host_order_kept : OrderKept (Began HostEmptied) (Answered HostDelivered HostPurged)
host_order_kept = called_order HostEmptied HostDelivered HostPurged host_emptied_as host_delivered_as host_purged_as

-- of lists of deliveries alone
pub host_equal_accepted : EqualAccepted (Began HostEmptied) (Answered HostDelivered HostPurged)
host_equal_accepted = equal_accepted (Began HostEmptied) (Answered HostDelivered HostPurged) host_agreement
