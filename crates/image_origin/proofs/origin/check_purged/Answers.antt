-- Past the floors the buffer does not end.
use Rattle.image_origin.specs.OriginParts.{counted_start}
use Rattle.image_origin.proofs.origin.check_purged.Goals as goal

pub check_base-requires : goal.check_base-requires
check_base-requires c = counted_start c.requires
