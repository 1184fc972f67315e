-- The next message lies inside the image and is of the table, so that it is found there.
use Rattle.std.proofs.Common.{◌≡◌, sym, ◌∙◌, subst, ℕ, arith, get_or}
use Rattle.model.specs.Layout.{sequence_at, sequence_size}
use Rattle.model.specs.Message.{sequence_of}
use Rattle.message_sequence.specs.Sequence.{sequence_number}
use Rattle.set_table.specs.Table.{message_from}
use Rattle.set_table.specs.TableLaws.{Lies, passes_lies}
use Rattle.set_table.specs.Places.{IsPresent, IsAbsent}
use Rattle.image_log.specs.LogReadLaws.{reading_end, next_passes, not_absent, reading_more}
use Rattle.image_log.proofs.read_places.Goals as goal

pub read_sequence-requires : goal.read_sequence-requires
read_sequence-requires c =
    let at = get_or c.args.offsets.now c.loop-k.k 0 in
    let h : Lies c.args.b.now at = passes_lies c.args.b.now at (next_passes _ _ _ c.requires _ _ c.loop-k.invariant c.loop-k-test.true) in
    omega (arith, h.least, h.inside)

pub returns-in_default : goal.returns-in_default
returns-in_default c =
    let b = c.args.b.now in
    let at = get_or c.args.offsets.now c.loop-k.k 0 in
    let h : Lies b at = passes_lies b at (next_passes _ _ _ c.requires _ _ c.loop-k.invariant c.loop-k-test.true) in
    let named : sequence_number c.read_sequence.result ≡ sequence_of (message_from b at) =
    c.read_sequence.ensures ∙ sym (h.fields sequence_at sequence_size (omega (arith, h.least))) in
    let absent : IsAbsent b c.args.starts.now (sequence_of (message_from b at)) c.in_default.field-0 =
    subst (λ (n : ℕ). IsAbsent b c.args.starts.now n c.in_default.field-0) named c.in_default.ensures in
    absurd (not_absent _ _ _ c.requires _ _ c.loop-k.invariant c.loop-k-test.true c.in_default.field-0 absent)

pub loop-k-preserved : goal.loop-k-preserved
loop-k-preserved c =
    let b = c.args.b.now in
    let at = get_or c.args.offsets.now c.loop-k.k 0 in
    let h : Lies b at = passes_lies b at (next_passes _ _ _ c.requires _ _ c.loop-k.invariant c.loop-k-test.true) in
    let named : sequence_number c.read_sequence.result ≡ sequence_of (message_from b at) =
    c.read_sequence.ensures ∙ sym (h.fields sequence_at sequence_size (omega (arith, h.least))) in
    let present : IsPresent b c.args.starts.now (sequence_of (message_from b at)) c.in-Ok.i =
    subst (λ (n : ℕ). IsPresent b c.args.starts.now n c.in-Ok.i) named c.in-Ok.ensures in
    reading_more _ _ _ c.requires _ _ c.loop-k.invariant c.loop-k-test.true c.in-Ok.i present

pub returns : goal.returns
returns c = reading_end _ _ _ c.requires _ _ c.loop-k.invariant c.loop-k-test.false
