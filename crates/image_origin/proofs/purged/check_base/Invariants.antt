-- The values before a tag are in range: all are exactly if those from it on are.
use Rattle.std.proofs.Common.{◌≡◌}
use Rattle.model.specs.Lists.{every}
use Rattle.model.specs.Order.{in_range}
use Rattle.model.specs.Image.{base_in}
use Rattle.image_origin.proofs.BaseValues.{right_from}
use Rattle.image_origin.proofs.purged.check_base.Given as goal

abbrev pub invariant-loop-tag : goal.invariant-loop-tag
invariant-loop-tag l = right_from l.b l.tag ≡ every in_range (base_in l.b)
