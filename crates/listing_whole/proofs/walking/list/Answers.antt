-- The image begins with no deltas, and the buffer holds what is printed of as much as is read.
use Rattle.std.proofs.Common.{◌≡◌, refl, false, ap, arith, length, length-take, rules}
use Rattle.std.specs.Prelude.{is_err}
use Rattle.model.specs.Layout.{input_limit}
use Rattle.listing_whole.specs.EmptyLaws.{emptied, not_refused}
use Rattle.listing_whole.specs.Listing.{lists}
use Rattle.listing_whole.proofs.walking.list.Goals as goal

pub returns-then-is_err : goal.returns-then-is_err
returns-then-is_err c =
    let done : is_err c.empty.result ≡ false = not_refused _ c.empty.new.image c.empty.result refl c.empty.ensures in
    search rules

pub list_messages-requires : goal.list_messages-requires
list_messages-requires c = (c.empty.auto.image, omega (arith, ap length c.read_part-read.ensures, length-take input_limit c.args.input.now, c.well_formed))

pub returns : goal.returns
returns c = lists c.args.input.now c.read_part-read.ensures (emptied _ c.empty.new.image c.empty.result refl c.empty.ensures) c.list_messages.ensures
