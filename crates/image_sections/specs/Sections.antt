-- What an image has of its origin: numbers of the header, and base values and floors, one behind the other.
use Rattle.std.specs.Prelude.{List, ◌++◌, map, ℕ, length}
use Rattle.model.specs.Bytes.{bytes, join}
use Rattle.model.specs.Layout.{sequence_size}
use Rattle.model.specs.Order.{Origin}
use Rattle.model.specs.Image.{values_bytes}
use Rattle.image_header.specs.Pieces.{header_bytes}

-- the header of an image with an origin
abbrev pub header_with : Origin → ℕ → ℕ → ℕ → ℕ → List ℕ
header_with O log held start used = header_bytes log held start used (length O.floors) O.block O.group

abbrev pub origin_bytes : Origin → List ℕ
origin_bytes O = values_bytes O.base ++ join (map (bytes sequence_size) O.floors)
