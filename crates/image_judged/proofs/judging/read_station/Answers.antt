-- A buffer of zeros of an image's size is lent for the copy.
use Rattle.std.proofs.Common.{refl, arith}
use Rattle.model.specs.Layout.{image_size}
use Rattle.image_judged.proofs.judging.read_station.Goals as goal

pub read_and_copy-requires : goal.read_and_copy-requires
read_and_copy-requires c = (c.requires, record { count = image_size; zeros = refl; room = omega arith })
