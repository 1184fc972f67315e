-- The pieces that are there, and one more.
use Rattle.std.proofs.Common.{◌≡◌, Ok, Some, ◌∙◌, ap, subst, length, arith}
use Rattle.program_input.specs.Reading.{ReadingFits}
use Rattle.program_input.specs.Taken.{TakesPiece}
use Rattle.program_input.proofs.Taken.{took_more}
use Rattle.program_input.proofs.read_input.Goals as goal

pub loop-at-preserved : goal.loop-at-preserved
loop-at-preserved g c =
    let brought : c.read_piece.result ≡ Ok (Some c.in-Ok-Some.n) = c.in-Ok-Some.is ∙ ap Ok c.in-Ok-Some.field-0-is in
    let size = length c.loop-at.buf in
    let fits = subst (ReadingFits c.loop-at.at size) brought c.read_piece.ensures.reading_fits in
    let piece = subst (λ r. TakesPiece (g.R.Read.remaining c.loop-at.reader) (g.R.Read.remaining c.read_piece.new.reader) c.loop-at.at size r c.read_piece.new.buf) brought c.read_piece.ensures.takes in
    record {
      fits = omega (arith, fits, c.read_piece.auto.buf);
      bytes = took_more _ _ _ _ _ _ _ (omega arith) c.read_piece.ensures.buf_unchanged c.loop-at.invariant.bytes piece;
    }
