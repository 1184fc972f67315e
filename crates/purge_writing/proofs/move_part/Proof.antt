-- The part of the pool is the piece that is pasted.
use mathlib.Core.Path.{◌≡◌, sym, ◌∙◌, ap}
use mathlib.Core.List.{List}
use Prim.Native.Nat.{ℕ, ◌+◌, ◌-◌}
use native.Mathlib.Omega.{arith}
use lib.ListN.{length, take, drop, length-drop}
use lib.Seq.{paste, length-take-le}
use borrow.Author.Rules.{rules}
use Rattle.purge_writing.proofs.move_part.Statement.{statement}
use Rattle.purge_writing.proofs.move_part.Tie as tie

-- how long it is
long : (s : tie.Start) → let a = s.args in length (take (a.to - a.from) (drop a.from a.pool.now)) ≡ a.to - a.from
long s =
    let a = s.args in
    length-take-le (a.to - a.from) (drop a.from a.pool.now) (omega (arith, length-drop a.from a.pool.now, s.requires.0, s.requires.1))

copy-at-requires : tie.Need-copy_at-requires
copy-at-requires c κs = (omega (arith, long c.before.before.before.before), c.requires.2)

returns : tie.Need-returns
returns c =
    let a = c.args in
    let piece : List ℕ = take (a.to - a.from) (drop a.from a.pool.now) in
    record {
      bytes = c.copy_at.ensures ∙ ap (paste a.image.now a.at piece) (sym (long c.before.before.before.before.before.before.before));
      end = ap (λ (n : ℕ). a.at + n) (sym (long c.before.before.before.before.before.before.before));
    }

pub move_part_spec : {M : Type 1} → statement M
move_part_spec =
    tie.close
    (tie.spec
    (λ c. search rules)
    (λ c. search rules)
    (λ c. search rules)
    (λ c. search rules)
    copy-at-requires
    (λ c. search rules)
    (λ c. search rules)
    returns)
