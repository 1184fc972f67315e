-- The place is one of the table's.
use mathlib.Core.Path.{sym, ◌∙◌}
use mathlib.Core.List.{[]}
use Prim.Native.Nat.{ℕ}
use native.Mathlib.Omega.{arith}
use lib.ListN.{get_or}
use borrow.Author.Rules.{rules}
use Rattle.laws_order.specs.ListLaws.{get_d_map}
use Rattle.set_table.specs.Table.{deltas_of}
use Rattle.image_sections.specs.LogPlaceLaws.{place_inside}
use Rattle.image_sections.proofs.placed.delta_at.Statement.{statement}
use Rattle.image_sections.proofs.placed.delta_at.Tie as tie

cast-place : tie.Need-overflow_cast-place
cast-place c = omega (arith, c.shared_slice_known-4-1.given c.args.k)

message-at-requires : tie.Need-message_at-requires
message-at-requires c κs =
    (c.requires.0.holds, place_inside c.args.pool.now c.args.starts.now c.args.places.now c.requires.0 c.args.k c.requires.1)

returns : tie.Need-returns
returns c =
    c.message_at.ensures ∙ sym (get_d_map (λ (i : ℕ). get_or (deltas_of c.args.pool.now c.args.starts.now) i []) c.args.places.now c.args.k 0 [] c.requires.1)

pub delta_at_spec : {M : Type 1} → statement M
delta_at_spec = tie.close (tie.spec (λ c. search rules) cast-place message-at-requires returns)
