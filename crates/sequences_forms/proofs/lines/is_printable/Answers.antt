-- One character more is seen, or none is left.
use Rattle.std.proofs.Common.{◌≡◌, refl, sym, ap, ◌∙◌, ℕ, ◌+◌, ◌<◌, Bool, true, false, ◌&&◌, List, length, drop, get_or, arith}
use mathlib.Core.Bool.{and-true}
use lib.Dec.{leb}
use Rattle.model.specs.Lists.{every}
use Rattle.model.specs.Program.{printable}
use Rattle.laws_order.specs.ScanLaws.{every_step, every_end}
use Rattle.sequences_forms.proofs.lines.is_printable.Goals as goal

step : (ok : Bool) (l : List ℕ) (i : ℕ) → i < length l
    → ok && every printable (drop i l) ≡ ((ok && leb 32 (get_or l i 0)) && leb (get_or l i 0) 126) && every printable (drop (i + 1) l)
step true l i h = every_step printable l i 0 h
step false l i h = refl

pub loop-c-preserved : goal.loop-c-preserved
loop-c-preserved c = c.loop-c.invariant ∙ step c.loop-c.ok c.args.line.now c.loop-c.c-index (omega arith)

pub returns : goal.returns
returns c =
    sym (c.loop-c.invariant ∙ ap (λ (t : Bool). c.loop-c.ok && t) (every_end printable c.args.line.now c.loop-c.c-index (omega arith)) ∙ and-true c.loop-c.ok)
