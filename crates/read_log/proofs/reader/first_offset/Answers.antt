-- A reader starts where the messages do, of a buffer of an image's size.
use Rattle.std.specs.Prelude.{Bool, cond, not, length, eqb}
use Rattle.std.proofs.Common.{sym, ◌∙◌, ap, arith, eqb-true}
use Rattle.model.specs.Layout.{image_size}
use Rattle.model.specs.Image.{messages_start_in}
use Rattle.model.specs.Calls.{start}
use Rattle.refusals.specs.declared.Refusal.TheVariants.{WrongSize}
use Rattle.refusals.specs.Refusals.{passed, failed}
use Rattle.read_log.proofs.reader.first_offset.Goals as goal

pub returns-in_default : goal.returns-in_default
unfolding start
returns-in_default c =
    let b = c.args.image.now in
    sym (ap (λ (t : Bool). cond (not t) 0 (messages_start_in b)) (failed WrongSize _ (eqb (length b) image_size) c.in_default.ensures))

pub messages_start-requires : goal.messages_start-requires
messages_start-requires c =
    let b = c.args.image.now in omega (arith, eqb-true (length b) image_size (passed WrongSize (eqb (length b) image_size) c.in-Ok.ensures))

pub returns : goal.returns
unfolding start
returns c =
    let b = c.args.image.now in
    c.messages_start.ensures ∙ sym (ap (λ (t : Bool). cond (not t) 0 (messages_start_in b)) (passed WrongSize (eqb (length b) image_size) c.in-Ok.ensures))
