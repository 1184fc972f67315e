-- Demand 1 as the host sees it, over what the calls for C were proved to leave behind: the code is the lowest number that applies to the
-- call, and a refusal writes nothing.
use Rattle.std.specs.Prelude.{◌≡◌, List, [], ℕ, length, pos}
use Rattle.std.proofs.Common.{sym, subst}
use Rattle.model.specs.Message.{Message}
use Rattle.model.specs.Codes.{empty_conditions, deliver_conditions, purge_conditions, compose_conditions, log_message_conditions, setpoint_conditions, read_sequences_conditions, write_sequences_conditions}
use Rattle.model.specs.Calls.{Emptied, Delivered, Purged, Composed, Setpoint, Converted, log_message_code}
use Rattle.theorems.specs.Theorems as laws
use Rattle.theorems.specs.Theorems.{CodeLaw, LeftAlone}
use Rattle.theorems_host.specs.HostRuns.{HostEmptied, HostDelivered, HostPurged}
use Rattle.theorems_host.proofs.HostRuns.{host_emptied_as, host_delivered_as, host_purged_as}
use Rattle.theorems_host.specs.HostComposes.{HostComposed}
use Rattle.theorems_host.proofs.HostComposes.{host_composed_as}
use Rattle.theorems_host.specs.HostReads.{HostLogMessage, host_log_message_as, HostSetpoint, host_setpoint_as, HostRead, host_read_as, HostWritten, host_written_as}

pub empty_codes : (buffer : List ℕ) (a : Emptied) → HostEmptied buffer a → CodeLaw (empty_conditions buffer) a.code (a.image ≡ buffer)
empty_codes buffer a c = subst (λ (x : Emptied). CodeLaw (empty_conditions buffer) x.code (x.image ≡ buffer)) (sym (host_emptied_as buffer a c)) (laws.empty_codes buffer)

pub deliver_codes : (b : List ℕ) (m : Message) (steps : List ℕ) (a : Delivered) → HostDelivered b m steps a
    → CodeLaw (deliver_conditions b m (length steps)) a.code (LeftAlone b steps a)
deliver_codes b m steps a c =
    subst (λ (x : Delivered). CodeLaw (deliver_conditions b m (length steps)) x.code (LeftAlone b steps x)) (sym (host_delivered_as b m steps a c)) (laws.deliver_codes b m steps)

pub purge_codes : (b : List ℕ) (K : ℕ) (a : Purged) → HostPurged b K a → CodeLaw (purge_conditions b K) a.code (a.image ≡ b)
purge_codes b K a c = subst (λ (x : Purged). CodeLaw (purge_conditions b K) x.code (x.image ≡ b)) (sym (host_purged_as b K a c)) (laws.purge_codes b K)

pub compose_codes : (b line commands : List ℕ) (flag priority : ℕ) (buffer : List ℕ) (a : Composed) → HostComposed b line commands flag priority buffer a
    → CodeLaw (compose_conditions b line commands flag priority (length buffer)) a.code ((a.size ≡ 0) × (a.message ≡ buffer))
compose_codes b line commands flag priority buffer a c =
    subst (λ (x : Composed). CodeLaw (compose_conditions b line commands flag priority (length buffer)) x.code ((x.size ≡ 0) × (x.message ≡ buffer)))
    (sym (host_composed_as b line commands flag priority buffer a c)) (laws.compose_codes b line commands flag priority buffer)

pub log_message_codes : (b : List ℕ) (place : ℕ) (part : List ℕ) (code : ℕ) → HostLogMessage b place part code → CodeLaw (log_message_conditions b place) code (part ≡ [])
log_message_codes b place part code c =
    let is = host_log_message_as b place part code c in
    subst (λ (n : ℕ). CodeLaw (log_message_conditions b place) n (part ≡ [])) (sym is.1)
    (subst (λ (p : List ℕ). CodeLaw (log_message_conditions b place) (log_message_code b place) (p ≡ [])) (sym is.0) (laws.log_message_codes b place))

pub setpoint_codes : (b : List ℕ) (tag : ℕ) (a : Setpoint) → HostSetpoint b tag a → CodeLaw (setpoint_conditions b tag) a.code (a.value ≡ pos 0)
setpoint_codes b tag a c =
    subst (λ (x : Setpoint). CodeLaw (setpoint_conditions b tag) x.code (x.value ≡ pos 0)) (sym (host_setpoint_as b tag a c)) (laws.setpoint_codes b tag)

pub read_sequences_codes : (t buffer : List ℕ) (a : Converted) → HostRead t buffer a
    → CodeLaw (read_sequences_conditions t (length buffer)) a.code ((a.size ≡ 0) × (a.buffer ≡ buffer))
read_sequences_codes t buffer a c =
    subst (λ (x : Converted). CodeLaw (read_sequences_conditions t (length buffer)) x.code ((x.size ≡ 0) × (x.buffer ≡ buffer)))
    (sym (host_read_as t buffer a c)) (laws.read_sequences_codes t buffer)

pub write_sequences_codes : (b buffer : List ℕ) (a : Converted) → HostWritten b buffer a
    → CodeLaw (write_sequences_conditions b (length buffer)) a.code ((a.size ≡ 0) × (a.buffer ≡ buffer))
write_sequences_codes b buffer a c =
    subst (λ (x : Converted). CodeLaw (write_sequences_conditions b (length buffer)) x.code ((x.size ≡ 0) × (x.buffer ≡ buffer)))
    (sym (host_written_as b buffer a c)) (laws.write_sequences_codes b buffer)
