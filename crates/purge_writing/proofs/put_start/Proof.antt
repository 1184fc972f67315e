-- The floors are pasted behind the base values.
use mathlib.Core.Path.{◌≡◌, ◌∙◌, ap}
use mathlib.Core.List.{List}
use Prim.Native.Nat.{ℕ, ◌*◌}
use native.Mathlib.Omega.{arith}
use lib.ListN.{length}
use lib.Seq.{paste}
use borrow.Author.Rules.{rules}
use Rattle.model.specs.Layout.{sequence_size, tag_count, values_size, base_start, floors_start}
use Rattle.setpoints_values.specs.Words.{words_of, words_length}
use Rattle.purge_writing.specs.StandingLaws.{behind_pasted}
use Rattle.purge_writing.proofs.put_start.Statement.{statement}
use Rattle.purge_writing.proofs.put_start.Tie as tie

base_size : (s : tie.Start) → length s.args.base ≡ tag_count
base_size s = search rules

returns : tie.Need-returns
returns c =
    let a = c.args in
    c.copy_at.ensures
    ∙ ap (λ (b : List ℕ). paste b floors_start a.tops.now (sequence_size * a.floors)) c.put_values.ensures
    ∙ behind_pasted a.image.now base_start (words_of a.base) a.tops.now values_size (sequence_size * a.floors)
    (omega (arith, c.requires.0)) (words_length a.base ∙ omega (arith, base_size c.before.before.before.before.before.before.before.before.before.before)) c.requires.1

pub put_start_spec : {M : Type 1} → statement M
put_start_spec =
    tie.close (tie.spec (λ c κs. search rules) (λ c. search rules) (λ c κs. search rules) (λ c. search rules) returns)
