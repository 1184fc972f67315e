-- The part is the definition's next message, and the offset behind it fits.
use Rattle.std.proofs.Common.{◌<◌, ◌^◌, length, ap, arith}
use Rattle.read_log.specs.ReaderLaws.{reads_on, next_fits}
use Rattle.read_log.proofs.reader.next.Goals as goal

pub overflow_add-reader : goal.overflow_add-reader
overflow_add-reader c =
    let r = c.args.reader.now in
    let fits : r.offset < 2 ^ 64 = omega arith in
    omega (arith, ap length c.next_part-part.ensures, next_fits r.image.now r.offset fits)

pub returns : goal.returns
returns c = reads_on c.args.reader.now c.next_part-part.result.now c.next_part-part.ensures
