-- One pair more is written.
use Rattle.std.proofs.Common.{map, get_or, pos, arith, w32}
use Rattle.std.proofs.Math.Facts.{to_z-of_z}
use Rattle.setpoints_changes.specs.declared.Change.{Change}
use Rattle.setpoints_changes.specs.Changes.{change_in}
use Rattle.step_pairs.specs.Kinds.{pairs_by}
use Rattle.step_pairs.specs.KindLaws.{no_pair, held_count, held_pair}
use Rattle.step_pairs.specs.PairLaws.{pairs_next}
use Rattle.step_pairs.proofs.put_pairs.Goals as goal

no_change : Change
no_change = record { tag = 0; before = pos 0; after = pos 0 }

pub loop-k-preserved : goal.loop-k-preserved
unfolding no_change
loop-k-preserved c =
    let a = c.args in
    let l = c.loop-k in
    let changes = a.changes.now in
    let change = get_or changes c.place_of.result no_change in
    let before = to_z-of_z {w = w32} {z = change.before} (record { sfits = omega arith }) in
    let after = to_z-of_z {w = w32} {z = change.after} (record { sfits = omega arith }) in
    let value = to_z-of_z {w = w32} {z = c.listed_value-value.result} (record { sfits = c.listed_value-value.type_inv }) in
    let pair = held_pair a.kind changes no_change {k = l.k} {j = c.place_of.result} {v = c.listed_value-value.result} (omega arith) (cc c.place_of.ensures) (cc (before, after, c.listed_value-value.ensures)) in
    let next = pairs_next a.steps.now a.at (pairs_by a.kind (map change_in changes)) l.k no_pair (omega (arith, held_count a.kind changes)) (omega arith) in
    record { size = omega arith; written = cc (pair, next, value, c.put_pair.ensures, l.invariant.written) }
