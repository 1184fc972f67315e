-- Eight bytes and two are the ten bytes' number, with 0000 behind them.
use mathlib.Core.Path.{◌∙◌, ap₂}
use Prim.Native.Nat.{ℕ, ◌+◌, ◌*◌}
use Rattle.model.specs.Layout.{numbers_of_line}
use Rattle.compose_line.specs.LineLaws.{line_number}
use borrow.Author.Rules.{rules}
use Rattle.compose_line.proofs.read_line.Statement.{statement}
use Rattle.compose_line.proofs.read_line.Tie as tie

returns : tie.Need-returns
returns c =
    ap₂ (λ (x y : ℕ). x * 4294967296 + y * numbers_of_line) c.get_u64-high.ensures c.get_u16-low.ensures.0 ∙ line_number c.args.line.now c.requires

pub read_line_spec : {M : Type 1} → statement M
read_line_spec = tie.close (tie.spec (λ c κs. search rules) (λ c κs. search rules) (λ c. search rules) returns)
