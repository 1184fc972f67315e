-- The four parts stand one behind the other.
use mathlib.Core.Path.{◌∙◌, ap}
use mathlib.Core.List.{List}
use Prim.Native.Nat.{ℕ}
use Rattle.model.specs.Bytes.{bytes}
use Rattle.model.specs.Layout.{length_at, sequence_at, group_at, sequence_size}
use Rattle.message_sequence.specs.Sequence.{sequence_number}
use Rattle.image_header.specs.Pieces.{pasted}
use Rattle.compose_header.specs.Numbers.{offsets_bytes, order_bytes}
use Rattle.compose_writing.specs.WritingLaws.{header_pasted}
use borrow.Author.Rules.{rules}
use Rattle.compose_writing.proofs.header.put_parts.Statement.{statement}
use Rattle.compose_writing.proofs.header.put_parts.Tie as tie

returns : tie.Need-returns
returns c =
    let a = c.args in
    c.put_fields.ensures
    ∙ ap (λ (b : List ℕ). pasted b group_at (order_bytes a.h.group a.block a.priority))
    (c.put_sequence.ensures
    ∙ ap (λ (b : List ℕ). pasted b sequence_at (bytes sequence_size (sequence_number a.h.sequence)))
    (c.put_offsets.ensures ∙ ap (λ (b : List ℕ). pasted b length_at (offsets_bytes a.h.dependencies a.h.commands)) c.put_counts.ensures))
    ∙ header_pasted a.message.now c.requires.0 a.flag (sequence_number a.h.sequence) a.h.group a.block a.priority a.h.dependencies a.h.commands

pub put_parts_spec : {M : Type 1} → statement M
put_parts_spec =
    tie.close
    (tie.spec
    (λ c κs. search rules)
    (λ c κs. search rules)
    (λ c κs. search rules)
    (λ c κs. search rules)
    (λ c. search rules)
    returns)
