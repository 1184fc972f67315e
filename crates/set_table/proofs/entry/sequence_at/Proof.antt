-- The message of an entry of a right set lies inside the pool, and its sequence is read there.
use mathlib.Core.Path.{sym, ◌∙◌}
use native.Mathlib.Omega.{arith}
use borrow.Author.Rules.{rules}
use Rattle.set_table.specs.PlaceLaws.{Stands, stands}
use Rattle.set_table.proofs.entry.sequence_at.Statement.{statement}
use Rattle.set_table.proofs.entry.sequence_at.Tie as tie

here : (c : tie.Start) → Stands c.args.pool.now c.args.starts.now c.args.i
here c = stands c.args.pool.now c.args.starts.now c.requires.0 c.args.i c.requires.1

-- where the sequence is read
abbrev read : tie.After-shared_slice_known-3-1 → tie.Start
read c = c.before.before.before

cast-at : tie.Need-overflow_cast-at
cast-at c = let l = (here (read c)).lies in omega arith

add-read-sequence : tie.Need-overflow_add-at
add-read-sequence c = let l = (here (read c)).lies in omega arith

read-sequence-requires : tie.Need-read_sequence-requires
read-sequence-requires c κs = let l = (here (read c)).lies in omega arith

returns : tie.Need-returns
returns c = c.read_sequence.ensures ∙ sym (here (read c.before)).sequence

pub sequence_at_spec : {M : Type 1} → statement M
sequence_at_spec =
    tie.close
    (tie.spec (λ c. search rules) (λ c. search rules) cast-at add-read-sequence read-sequence-requires returns)
