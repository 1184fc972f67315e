-- Whether all are zero: those seen, and those that are left.
use Rattle.std.proofs.Common.{◌≡◌, ◌&&◌, drop}
use Rattle.image_listed.proofs.Zeros.{all_zero}
use Rattle.image_listed.proofs.comparing.equals_copy.Given as goal

abbrev pub invariant-loop-byte : goal.invariant-loop-byte
invariant-loop-byte l = all_zero l.byte-items ≡ l.zero && all_zero (drop l.byte-index l.byte-items)
