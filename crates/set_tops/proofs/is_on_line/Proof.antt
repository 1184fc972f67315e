-- The top that is read is the one at the place, where there is one.
use mathlib.Core.Path.{sym, ◌∙◌, ap, ap₂}
use mathlib.Core.Bool.{Bool, ◌&&◌}
use Prim.Native.Nat.{ℕ}
use native.Mathlib.Omega.{arith}
use lib.ListN.{length, get_or}
use lib.Dec.{eqb}
use borrow.Author.Rules.{rules}
use borrow.Author.Tests.{lt-ltb, le-ltb}
use Rattle.model.specs.Message.{line_of}
use Rattle.message_sequence.specs.Sequence.{sequence_number}
use Rattle.set_tops.specs.TopsIn.{tops_in}
use Rattle.set_tops.specs.TopsLaws.{tops_length, top_at}
use Rattle.set_tops.proofs.is_on_line.Statement.{statement}
use Rattle.set_tops.proofs.is_on_line.Tie as tie

returns : tie.Need-returns-then-count-p
returns c =
    let a = c.args in
    let tops = tops_in a.tops.now a.count in
    ap (λ (b : Bool). b && eqb (line_of (get_or tops a.p 0)) (line_of (sequence_number a.s)))
    (sym (le-ltb a.p (length tops) (omega (arith, tops_length a.tops.now a.count))))

returns-2 : tie.Need-returns
returns-2 c =
    let a = c.args in
    let tops = tops_in a.tops.now a.count in
    c.same_line.ensures
    ∙ ap₂ (λ (b : Bool) (n : ℕ). b && eqb (line_of n) (line_of (sequence_number a.s)))
    (sym (lt-ltb a.p (length tops) (omega (arith, tops_length a.tops.now a.count))))
    (c.read_sequence-top.ensures ∙ sym (top_at a.tops.now a.count a.p (omega arith)))

pub is_on_line_spec : {M : Type 1} → statement M
is_on_line_spec = tie.close (tie.spec returns (λ c. omega arith) (λ c κs. omega arith) (λ c κs. search rules) returns-2)
