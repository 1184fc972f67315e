-- A composed message as the host sees it: the call is the definition's, and so keeps its promise.
use Rattle.std.specs.Prelude.{◌≡◌, List, ℕ}
use Rattle.std.proofs.Common.{sym, ◌∙◌, ap₂}
use Rattle.model.specs.Calls.{Composed, compose}
use Rattle.laws_compose.specs.ComposePromise.{ComposePromise}
use Rattle.laws_compose.proofs.PromiseKept.{promise_of}
use Rattle.bivamolune_packing.specs.ComposeAnswers.{Composes}
use Rattle.theorems_host.specs.HostRuns.{HostDelivered}
use Rattle.theorems_host.proofs.HostRuns.{host_delivered_as}
use Rattle.theorems_host.specs.HostComposes.{composed_with, HostComposed}

-- it is the definition's call
composed_is : (b line commands : List ℕ) (flag priority : ℕ) (buffer : List ℕ) (number : ℕ) (exit : List ℕ) → Composes b line commands flag priority buffer number exit
    → composed_with number exit ≡ compose b line commands flag priority buffer
composed_is b line commands flag priority buffer number exit c = λ i. record { code = c.parts.code_back i; size = c.parts.length_back i; message = c.message_after i }

pub host_composed_as : (b line commands : List ℕ) (flag priority : ℕ) (buffer : List ℕ) (a : Composed) → HostComposed b line commands flag priority buffer a
    → a ≡ compose b line commands flag priority buffer
host_composed_as b line commands flag priority buffer a c =
    c.answer ∙ composed_is c.image.now c.line_lent.now c.commands_lent.now flag priority c.message_entry.now c.number c.message_exit.now c.post
    ∙ ap₂ (λ (x y : List ℕ). compose x y c.commands_lent.now flag priority c.message_entry.now) (sym c.on) (sym c.of_line)
    ∙ ap₂ (λ (x y : List ℕ). compose b line x flag priority y) (sym c.of_commands) (sym c.lent)

-- A COMPOSED MESSAGE, as the host sees it
pub host_composed_keeps : (b line commands : List ℕ) (flag priority : ℕ) (buffer : List ℕ) (a : Composed) → HostComposed b line commands flag priority buffer a
    → a.code ≡ 0 → ComposePromise HostDelivered b line commands flag priority buffer a
host_composed_keeps b line commands flag priority buffer a c =
    promise_of HostDelivered host_delivered_as b line commands flag priority buffer a (host_composed_as b line commands flag priority buffer a c)
