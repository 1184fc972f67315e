-- A place that is among the given ones is passed over, and any other is one more.
use Rattle.std.proofs.Common.{◌∙◌, sym, ap, ap₂, arith, length-set, length, take}
use Rattle.image_sections.proofs.Among.{skip_count, take_count, skip_others, take_others, others_few}
use Rattle.image_sections.proofs.held.held_places.Goals as goal
use Rattle.image_sections.proofs.held.held_places.Goals.{then-not-contains, else-not-contains}

pub loop-place-preserved : goal.loop-place-preserved
loop-place-preserved c =
    let i = c.loop-place.place-counter in
    let n = c.loop-place.n in
    let held = c.loop-place.held in
    let places = c.args.places.now in
    let v = c.loop-place.invariant in
    elim c.if-not-contains.branch [
      | then-not-contains w ↦
          let new = sym c.contains.ensures.value ∙ w.if-not-contains.true in
          record {
            count = w.n-is ∙ take_count places n i v.count new;
            others = ap₂ take w.n-is w.held-is ∙ take_others places held n i v.others new (omega (arith, others_few places n i v.count));
            size = ap length w.held-is ∙ length-set held n i ∙ v.size;
          }
      | else-not-contains w ↦
          let old = sym c.contains.ensures.value ∙ w.if-not-contains.false in
          record {
            count = w.n-is ∙ skip_count places n i v.count old;
            others = ap₂ take w.n-is w.held-is ∙ skip_others places held n i v.others old;
            size = ap length w.held-is ∙ v.size;
          }
    ]
