-- The same of the library's own calls, for a caller in Rattle: demands 3 and 2, and a composed message, over what `empty`, `deliver`,
-- `purge` and `compose` were proved to leave behind. The fields of each promise are written out in `Claims`.
use Rattle.std.specs.Prelude.{◌≡◌, List, ℕ}
use Rattle.model.specs.Calls.{Composed}
use Rattle.model_runs.specs.Run.{Agreement}
use Rattle.model_runs.specs.RunOrder.{OrderKept}
use Rattle.laws_run.specs.CalledRuns.{Began, Answered}
use Rattle.laws_compose.specs.ComposePromise.{ComposePromise}
use Rattle.theorems_calls.specs.Runs as runs
use Rattle.theorems_calls.specs.Runs.{EmptiedFrom, DeliveredTo, PurgedFrom}
use Rattle.theorems_calls.specs.Composes as composes
use Rattle.theorems_calls.specs.Composes.{ComposedOn}

pub agreement : Agreement (Began EmptiedFrom) (Answered DeliveredTo PurgedFrom)
agreement = runs.agreement

pub order_kept : OrderKept (Began EmptiedFrom) (Answered DeliveredTo PurgedFrom)
order_kept = runs.order_kept

pub composed_keeps : (b line commands : List ℕ) (flag priority : ℕ) (buffer : List ℕ) (a : Composed) → ComposedOn b line commands flag priority buffer a → a.code ≡ 0
    → ComposePromise DeliveredTo b line commands flag priority buffer a
composed_keeps = composes.composed_keeps
