-- The row begins with none; a need is left out, or stands behind those that are there.
use Rattle.std.proofs.Common.{rules, arith, map}
use Rattle.message_sequence.specs.Sequence.{sequence_number}
use Rattle.set_needs.proofs.Filling.{filling_none, filling_out, filling_more}
use Rattle.set_needs.proofs.rows.fill_row.Goals as goal
use Rattle.set_needs.proofs.rows.fill_row.Goals.{then-not-is_left_out, else-not-is_left_out}

pub loop-k-init : goal.loop-k-init
loop-k-init c = search (rules, filling_none)

pub loop-k-preserved : goal.loop-k-preserved
loop-k-preserved c =
    let a = c.args in
    let l = c.loop-k in
    let out =
    filling_out a.pool.now a.starts.now a.i a.at a.rows.now c.message_at-m.result.now l.k l.rows l.n l.invariant (omega (arith, c.count_needs-count.ensures))
    c.need_of-s.result c.index_of-index.result c.need_of-s.ensures (map sequence_number a.sequences.now) c.index_of-index.ensures c.requires.4
    c.is_left_out.result c.is_left_out.ensures in
    let more =
    filling_more a.pool.now a.starts.now a.i a.at a.rows.now c.message_at-m.result.now l.k l.rows l.n l.invariant (omega (arith, c.count_needs-count.ensures))
    c.need_of-s.result c.index_of-index.result c.need_of-s.ensures (map sequence_number a.sequences.now) c.index_of-index.ensures c.requires.4
    c.is_left_out.result c.is_left_out.ensures in
    elim c.if-not-is_left_out.branch [ then-not-is_left_out w ↦ search (rules, more) | else-not-is_left_out w ↦ search (rules, out) ]
