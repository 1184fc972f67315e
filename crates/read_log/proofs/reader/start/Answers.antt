-- A reader at the first offset is the definition's.
use Rattle.read_log.specs.ReaderLaws.{starts_at}
use Rattle.read_log.proofs.reader.start.Goals as goal

pub returns : goal.returns
returns c = starts_at (record { image = c.args.image; offset = c.first_offset.result }) c.first_offset.ensures
