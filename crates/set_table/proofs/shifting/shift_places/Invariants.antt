-- The places before this one are shifted, those from it on are as they were.
use Rattle.std.proofs.Common.{take}
use Rattle.set_table.proofs.Shifted.{Shifting}
use Rattle.set_table.proofs.shifting.shift_places.Given as goal

abbrev pub invariant-loop-place : goal.invariant-loop-place
invariant-loop-place l = Shifting l.p (take l.count l.fn.places) l.place-items l.place-index
