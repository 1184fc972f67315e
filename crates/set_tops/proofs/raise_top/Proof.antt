-- The top of the sequence's line is put over by the higher of the two; a line without one gets its own.
use mathlib.Core.Path.{◌≡◌, sym, ◌∙◌, ap}
use mathlib.Core.List.{List, ◌∷◌, ◌++◌}
use Prim.Native.Nat.{ℕ, suc, ◌<◌, max}
use native.Mathlib.Omega.{arith}
use lib.ListN.{take, drop, get_or}
use borrow.Author.Rules.{rules}
use Rattle.buffer_reads.specs.FieldLaws.{all_bytes}
use Rattle.message_sequence.specs.Sequence.{sequence_number}
use Rattle.set_tops.specs.TopsIn.{tops_in}
use Rattle.set_tops.specs.TopsLaws.{tops_length, top_at, top_small, tops_put_over}
use Rattle.set_tops.specs.RaisingLaws.{on_line_left, raised_on, raised_in}
use Rattle.set_tops.proofs.raise_top.Statement.{statement}
use Rattle.set_tops.proofs.raise_top.Tie as tie

-- the call as it began, and its tops then
abbrev start : tie.After-top_place-p → tie.Start
start c = c.before.before

abbrev tops : tie.After-top_place-p → List ℕ
tops c = tops_in (start c).args.tops.now (start c).args.count

abbrev placed : tie.After-is_on_line → tie.After-top_place-p
placed c = c.before

-- there is a top at the place
inside : (c : tie.Then-is_on_line) → (placed c.before).top_place-p.result < (start (placed c.before)).args.count
inside c =
    let d = placed c.before in
    let a = (start d).args in
    omega (arith, tops_length a.tops.now a.count, on_line_left (sequence_number a.s) (tops d) d.top_place-p.result (sym c.is_on_line.ensures ∙ c.if-is_on_line.true))

returns : tie.Need-returns-then-is_on_line
returns c =
    let d = placed c.before.before.before.before.before.before.before in
    let a = (start d).args in
    let s : ℕ = sequence_number a.s in
    let p : ℕ = d.top_place-p.result in
    let e : sequence_number c.higher.result ≡ max s (get_or (tops d) p 0) =
    c.higher.ensures ∙ ap (max s) (c.read_sequence-top.ensures ∙ sym (top_at a.tops.now a.count p (inside c.before.before.before.before.before.before))) in
    ap (λ (l : List ℕ). tops_in l a.count) c.put_sequence.ensures
    ∙ tops_put_over a.tops.now p a.count (sequence_number c.higher.result) (omega (arith, top_small a.tops.now a.count p (all_bytes a.tops.now (λ i. omega (arith, d.slice_known-1.given i))) (inside c.before.before.before.before.before.before), e, (start d).requires.2)) (inside c.before.before.before.before.before.before) (omega arith)
    ∙ ap (λ (n : ℕ). take p (tops d) ++ n ∷ drop (suc p) (tops d)) e
    ∙ sym (raised_on s (tops d) p d.top_place-p.ensures (sym c.is_on_line.ensures ∙ c.if-is_on_line.true))

insert-top-requires : tie.Need-insert_top-requires
insert-top-requires c κs =
    let d = placed c.before.before in
    let a = (start d).args in
    (omega arith, omega (arith, d.top_place-p.ensures.passes.inside, tops_length a.tops.now a.count), omega arith, (start d).requires.2)

returns-2 : tie.Need-returns
returns-2 c =
    let d = placed c.before.before.before.before.before in
    c.insert_top.ensures
    ∙ sym (raised_in (sequence_number (start d).args.s) (tops d) d.top_place-p.result d.top_place-p.ensures (sym c.is_on_line.ensures ∙ c.if-is_on_line.false))

pub raise_top_spec : {M : Type 1} → statement M
raise_top_spec =
    tie.close
    (tie.spec
    (λ c κs. search rules)
    (λ c κs. search rules)
    (λ c. omega (arith, inside c))
    (λ c κs. omega (arith, inside c))
    (λ c. omega (arith, inside c.before.before))
    (λ c κs. search rules)
    (λ c κs. omega (arith, inside c.before.before.before))
    (λ c. search rules)
    returns
    insert-top-requires
    (λ c. search rules)
    (λ c. search rules)
    returns-2)
