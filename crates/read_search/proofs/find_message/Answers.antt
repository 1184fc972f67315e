-- It does not start there either, or none is left.
use Rattle.std.proofs.Common.{arith}
use Rattle.read_search.specs.FindingLaws.{looking_first, looking_end, looking_on, lies}
use Rattle.read_search.proofs.find_message.Goals as goal

pub loop-at-init : goal.loop-at-init
loop-at-init c = looking_first _ _ c.requires _

pub get_u16-requires : goal.get_u16-requires
get_u16-requires c =
    let h = lies _ _ c.requires _ c.loop-at.invariant (omega (arith, c.requires.log.count)) in
    omega (arith, h.inside, h.least)

pub loop-at-preserved : goal.loop-at-preserved
loop-at-preserved c = looking_on _ _ c.requires _ c.loop-at.invariant (omega (arith, c.requires.log.count)) (λ e. omega arith)

pub returns : goal.returns
returns c = looking_end _ _ c.requires _ c.loop-at.invariant (omega (arith, c.requires.log.count))
