-- The pool's own bytes are those of its origin.
use mathlib.Core.Path.{◌∙◌, ap}
use mathlib.Core.List.{List}
use Prim.Native.Nat.{ℕ, ◌-◌, ◌≤◌}
use native.Mathlib.Omega.{arith}
use borrow.Author.Rules.{rules}
use lib.ListN.{take, drop, length-drop}
use lib.Seq.{paste, length-take-le}
use Rattle.model.specs.Layout.{base_start}
use Rattle.laws_origin.specs.OriginLaws.{start_least}
use Rattle.buffer_reads.specs.FieldLaws.{all_bytes}
use Rattle.image_sections.specs.OriginBytes.{origin_pasted}
use Rattle.image_sections.proofs.origin.put_origin.Statement.{statement}
use Rattle.image_sections.proofs.origin.put_origin.Tie as tie

-- the messages start past the base values
long : (s : tie.Start) → base_start ≤ s.args.start
long s = omega (arith, s.requires.0, start_least s.args.pool.now)

copy-at-requires : tie.Need-copy_at-requires
copy-at-requires c κs =
    let n = c.args.start - base_start in
    let rest : List ℕ = drop base_start c.args.pool.now in
    (omega (arith, length-take-le n rest (omega (arith, length-drop base_start c.args.pool.now, c.requires.1))), omega (arith, long c.before.before.before.before, c.requires.2))

returns : tie.Need-returns
returns c =
    let pool : List ℕ = c.args.pool.now in
    c.copy_at.ensures
    ∙ ap (λ (n : ℕ). paste c.args.out.now base_start (take (n - base_start) (drop base_start pool)) (n - base_start)) c.requires.0
    ∙ origin_pasted pool (all_bytes pool (λ i. omega (arith, c.shared_slice_known-1.given i))) (omega (arith, c.requires.0, c.requires.1)) c.args.out.now

pub put_origin_spec : {M : Type 1} → statement M
put_origin_spec =
    tie.close
    (tie.spec
    (λ c. long c.before.before)
    (λ c. long c.before.before.before)
    (λ c. omega (arith, long c.before.before.before, c.requires.1))
    (λ c. search rules)
    copy-at-requires
    (λ c. search rules)
    returns)
