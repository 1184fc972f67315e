-- The checks run in the order of their codes; what is an image is purged.
use Rattle.std.specs.Prelude.{◌≡◌, refl, true, ℕ, List, length, eqb, Ok}
use Rattle.std.proofs.Common.{sym, ◌∙◌, arith, take_all, eqb-true}
use Rattle.model.specs.Layout.{image_size}
use Rattle.refusals.specs.declared.Refusal.TheVariants.{WrongSize}
use Rattle.refusals.specs.Refusals.{checked, passed, failed}
use Rattle.purge_dropping.specs.PurgeCases.{size_case, image_case}
use Rattle.purge.proofs.purge.Goals as goal

-- what the check tells of the size
sized : (b : List ℕ) → Ok tt ≡ checked WrongSize (eqb (length b) image_size) → eqb (length b) image_size ≡ true
sized b e = passed WrongSize (eqb (length b) image_size) e

pub returns-in_default : goal.returns-in_default
returns-in_default c =
    let b = c.args.image.now in
    size_case b c.args.k (sym (failed WrongSize _ (eqb (length b) image_size) c.in_default.ensures))

pub read_and_copy-requires : goal.read_and_copy-requires
read_and_copy-requires c =
    let b = c.args.image.now in
    (eqb-true (length b) image_size (sized b c.in-Ok.ensures), record { count = image_size; zeros = refl; room = omega arith })

pub returns-in_default-read_and_copy : goal.returns-in_default-read_and_copy
returns-in_default-read_and_copy c =
    image_case c.args.image.now c.args.k (sym (sized c.args.image.now c.in-Ok.ensures)) c.in_default-read_and_copy.ensures.0.1

pub purge_at-requires : goal.purge_at-requires
purge_at-requires c =
    let copy = c.read_and_copy.new.copy in
    record { judged = c.in-Ok-read_and_copy.ensures.0; pooled = sym (take_all image_size copy (omega (arith, c.read_and_copy.auto))) ∙ c.in-Ok-read_and_copy.ensures.1 }
