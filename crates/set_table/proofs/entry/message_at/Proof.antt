-- The message of an entry of a right set lies inside the pool, as long as its length field says.
use Prim.Native.Nat.{ℕ, ◌+◌, ◌-◌}
use mathlib.Core.Path.{◌≡◌, sym, ◌∙◌, ap}
use lib.ListN.{get_or, take, drop}
use native.Mathlib.Omega.{arith}
use borrow.Author.Rules.{rules}
use Rattle.model.specs.Bytes.{field}
use Rattle.model.specs.Layout.{length_at}
use Rattle.set_table.specs.TableLaws.{Lies}
use Rattle.set_table.specs.PlaceLaws.{delta_at, stands}
use Rattle.set_table.proofs.entry.message_at.Statement.{statement}
use Rattle.set_table.proofs.entry.message_at.Tie as tie

lies : (c : tie.Start) → Lies c.args.pool.now (get_or c.args.starts.now c.args.i 0)
lies c = (stands c.args.pool.now c.args.starts.now c.requires.0 c.args.i c.requires.1).lies

-- where the length field is read
abbrev read : tie.After-shared_slice_known-3-1 → tie.Start
read c = c.before.before.before

cast-at : tie.Need-overflow_cast-at
cast-at c = let l = lies (read c) in omega arith

add-get-u16 : tie.Need-overflow_add-at
add-get-u16 c = let l = lies (read c) in omega arith

get-u16-requires : tie.Need-get_u16-requires
get-u16-requires c κs = let l = lies (read c) in omega arith

add-end : tie.Need-overflow_add-end
add-end c = let l = lies (read c.before) in omega (arith, c.get_u16.ensures)

part-result-end : tie.Need-slice_bounds-result-end
part-result-end c = let l = lies (read c.before) in omega (arith, c.get_u16.ensures)

returns : tie.Need-returns
returns c =
    let s = read c.before.before in
    let at = get_or s.args.starts.now s.args.i 0 in
    let size : at + c.get_u16.result - at ≡ field s.args.pool.now (at + length_at) 2 = omega (arith, c.get_u16.ensures) in
    ap (λ (n : ℕ). take n (drop at s.args.pool.now)) size ∙ sym (delta_at s.args.pool.now s.args.starts.now s.args.i s.requires.1)

pub message_at_spec : {M : Type 1} → statement M
message_at_spec =
    tie.close
    (tie.spec
    (λ c. search rules)
    (λ c. search rules)
    cast-at
    add-get-u16
    get-u16-requires
    (λ c. search rules)
    add-end
    (λ c. search rules)
    (λ c. search rules)
    part-result-end
    returns)
