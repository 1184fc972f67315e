-- A message that passes 3 to 6 has a header, in which its block stands; a pool whose origin is right has one, in which the purged block does.
use mathlib.Core.Path.{◌∙◌, ap, ap₂}
use Prim.Native.Nat.{max}
use native.Mathlib.Omega.{arith}
use borrow.Author.Rules.{rules}
use lib.ListN.{length}
use Rattle.model.specs.Message.{block_of}
use Rattle.model.specs.Image.{origin_in}
use Rattle.laws_origin.specs.OriginLaws.{room_of, start_least}
use Rattle.set_table.specs.PlaceLaws.{entry_long}
use Rattle.set_closure.proofs.placing.own_block.Statement.{statement}
use Rattle.set_closure.proofs.placing.own_block.Tie as tie

abbrev start : tie.After-message_at → tie.Start
start c = c.before.before.before

get-u32-requires : tie.Need-get_u32-stated-requires
get-u32-requires c κs =
    let s = start c in
    omega (arith, ap length c.message_at.ensures, entry_long s.args.pool.now s.args.starts.now s.requires.0 s.args.i s.requires.1)

get-u32-requires-2 : tie.Need-get_u32-requires
get-u32-requires-2 c κs =
    let s = start c.before in
    omega (arith, start_least s.args.pool.now, room_of s.args.pool.now s.requires.0.right)

returns : tie.Need-returns
unfolding origin_in
returns c =
    c.greater.ensures ∙ ap₂ max (c.get_u32-stated.ensures ∙ ap block_of c.message_at.ensures) c.get_u32.ensures

pub own_block_spec : {M : Type 1} → statement M
own_block_spec =
    tie.close
    (tie.spec (λ c κs. search rules) get-u32-requires get-u32-requires-2 (λ c κs. search rules) returns)
