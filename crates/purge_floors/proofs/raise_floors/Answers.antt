-- A place is one of the table's; its sequence is raised, and there is at most one top more.
use Rattle.std.proofs.Common.{◌≡◌, ◌∙◌, ℕ, List, ap, arith, get_or}
use Rattle.model.specs.Tops.{raise_top}
use Rattle.set_table.specs.Places.{sequence_in}
use Rattle.image_sections.specs.LogPlaceLaws.{place_inside}
use Rattle.set_tops.specs.TopsIn.{tops_in}
use Rattle.set_tops.specs.TopsLaws.{tops_length}
use Rattle.purge_floors.specs.FloorsLaws.{raised_next, raised_count}
use Rattle.purge_floors.proofs.raise_floors.Goals as goal

pub sequence_at-s-requires : goal.sequence_at-s-requires
sequence_at-s-requires c = (c.requires.0.holds, place_inside _ _ _ c.requires.0 _ c.loop-place-test.true)

pub loop-place-preserved : goal.loop-place-preserved
loop-place-preserved c =
    let l = c.loop-place in
    let s = sequence_in c.args.pool.now c.args.starts.now (get_or c.args.places.now l.place-index 0) in
    let tops : List ℕ = tops_in l.tops l.count in
    let raised : tops_in c.raise_top-count.new.tops c.raise_top-count.result ≡ raise_top s tops =
    c.raise_top-count.ensures ∙ ap (λ (n : ℕ). raise_top n tops) c.sequence_at-s.ensures in
    record {
      tops = raised_next c.args.pool.now c.args.starts.now c.args.places.now l.place-index tops c.loop-place-test.true raised ∙ l.invariant.tops;
      few = omega (arith, raised_count c.raise_top-count.new.tops c.raise_top-count.result s tops raised, tops_length l.tops l.count);
    }
