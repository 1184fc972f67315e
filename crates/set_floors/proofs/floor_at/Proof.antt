-- A floor of a pool that ends past all floors is read where it lies.
use mathlib.Core.Path.{sym, ◌∙◌}
use Prim.Native.Nat.{◌+◌, ◌*◌, ◌≤◌}
use native.Mathlib.Omega.{arith}
use lib.ListN.{length}
use Rattle.model.specs.Layout.{sequence_size, floors_start}
use Rattle.model.specs.Image.{floor_count, messages_start_in}
use Rattle.laws_origin.specs.OriginLaws.{floor_in}
use Rattle.set_floors.proofs.floor_at.Statement.{statement}
use Rattle.set_floors.proofs.floor_at.Tie as tie

-- where the sequence is read
abbrev read : tie.After-shared_slice_known-1 → tie.Start
read c = c.before

room : (c : tie.Start) → floors_start + sequence_size * floor_count c.args.pool.now ≤ length c.args.pool.now
unfolding messages_start_in
room c = c.requires.0

mul-read-sequence : tie.Need-overflow_mul-i
mul-read-sequence c = omega (arith, room (read c))

add-read-sequence : tie.Need-overflow_add-i
add-read-sequence c = omega (arith, room (read c))

read-sequence-requires : tie.Need-read_sequence-requires
read-sequence-requires c κs = omega (arith, room (read c))

returns : tie.Need-returns
returns c = let s = read c.before in c.read_sequence.ensures ∙ sym (floor_in s.args.pool.now s.args.i s.requires.1)

pub floor_at_spec : {M : Type 1} → statement M
floor_at_spec =
    tie.close (tie.spec mul-read-sequence add-read-sequence read-sequence-requires returns)
