-- One more is looked at: it is found where a new delta depends on it.
use Rattle.std.proofs.Common.{sym, ◌∙◌, subst, ℕ, List, ◌+◌, set}
use Rattle.message_sequence.specs.Sequence.{sequence_number}
use Rattle.compose_dependencies.specs.Unneeded.{Finding}
use Rattle.compose_dependencies.specs.FindingLaws.{finding_none, finding_more, finding_less}
use Rattle.compose_dependencies.proofs.find_dependencies.Goals as goal
use Rattle.compose_dependencies.proofs.find_dependencies.Goals.{then-is_dependency, else-is_dependency}

pub loop-i-init : goal.loop-i-init
loop-i-init c = finding_none c.args.pool.now c.args.starts.now c.requires.holds (sequence_number c.args.s)

pub loop-i-preserved : goal.loop-i-preserved
loop-i-preserved c =
    let l = c.loop-i in
    let pool = c.args.pool.now in
    let starts = c.args.starts.now in
    let s = sequence_number c.args.s in
    let more = c.loop-i-test.true in
    elim c.if-is_dependency.branch [
      | then-is_dependency w ↦
          subst (λ (x : List ℕ). Finding pool starts s x c.if-is_dependency.n (l.i + 1)) (sym w.found-is)
          (subst (λ (m : ℕ). Finding pool starts s (set l.found l.n l.i) m (l.i + 1)) (sym w.n-is)
          (finding_more pool starts c.requires.holds s l.found l.n l.i l.invariant more (sym c.is_dependency.ensures ∙ w.if-is_dependency.true)))
      | else-is_dependency w ↦
          subst (λ (x : List ℕ). Finding pool starts s x c.if-is_dependency.n (l.i + 1)) (sym w.found-is)
          (subst (λ (m : ℕ). Finding pool starts s l.found m (l.i + 1)) (sym w.n-is)
          (finding_less pool starts c.requires.holds s l.found l.n l.i l.invariant more (sym c.is_dependency.ensures ∙ w.if-is_dependency.false)))
    ]
