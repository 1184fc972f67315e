-- The places of a table after a start was put in.
use Rattle.std.specs.Prelude.{cond, ℕ, suc, leb}

-- A place after a start was put in at p: one more from p on.
abbrev pub shifted : ℕ → ℕ → ℕ
shifted p i = cond (leb p i) (suc i) i
