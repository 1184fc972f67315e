-- The highest so far and those that are left make up the highest.
use Rattle.std.proofs.Common.{ℕ, ◌≡◌, max, get_or, drop}
use Rattle.model.specs.Lists.{greatest}
use Rattle.log_highest.proofs.block.highest_of.Given as goal

abbrev pub invariant-loop-place : goal.invariant-loop-place
invariant-loop-place l =
    let block = λ (i : ℕ). get_or l.blocks i 0 in
    greatest block l.places ≡ max l.highest (greatest block (drop l.place-index l.places))
