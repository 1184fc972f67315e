-- The tops from the place on are copied out, and back one top further on; then the sequence is put before them.
use native.Mathlib.Omega.{arith}
use borrow.Author.Rules.{rules}
use Rattle.message_sequence.specs.Sequence.{sequence_number}
use Rattle.set_tops.specs.TopsLaws.{tops_put_in}
use Rattle.set_tops.proofs.insert_top.Statement.{statement}
use Rattle.set_tops.proofs.insert_top.Tie as tie

returns : tie.Need-returns
returns c =
    let a = c.args in
    tops_put_in a.tops.now a.p a.count (sequence_number a.s) c.requires.3 (omega arith) (omega arith)
    _ c.copy_at.ensures (omega arith) c.copy_at-2.ensures c.put_sequence.ensures

pub insert_top_spec : {M : Type 1} → statement M
insert_top_spec =
    tie.close
    (tie.spec
    (λ c. search rules)
    (λ c. search rules)
    (λ c. search rules)
    (λ c. search rules)
    (λ c. search rules)
    (λ c. search rules)
    (λ c. search rules)
    (λ c κs. search rules)
    (λ c. search rules)
    (λ c. search rules)
    (λ c κs. search rules)
    (λ c κs. search rules)
    (λ c. search rules)
    returns)
