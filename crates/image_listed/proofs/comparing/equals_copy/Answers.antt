-- The used bytes are compared, and those behind them are zero in the copy.
use Rattle.std.proofs.Common.{sym, ◌∙◌}
use Rattle.image_listed.proofs.Zeros.{next_zero, no_more, front_differs, rest_decides}
use Rattle.image_listed.proofs.comparing.equals_copy.Goals as goal

pub returns-then-not-same : goal.returns-then-not-same
returns-then-not-same c = front_differs _ _ _ c.requires.2 c.same.ensures c.if-not-same.true

pub loop-byte-preserved : goal.loop-byte-preserved
loop-byte-preserved c = c.loop-byte.invariant ∙ next_zero _ _ _ c.loop-byte-test.true

pub returns : goal.returns
returns c =
    sym (no_more _ _ _ c.loop-byte-test.false) ∙ sym c.loop-byte.invariant
    ∙ rest_decides _ _ _ c.requires.2 c.same.ensures c.if-not-same.false
